-- The names of proxy headers: `Forwarded` (RFC 7239, section 4), and the `X-Forwarded-` family that
-- it stands for. Names are in lower case, as where a head was read.
use Rattle.std.specs.Prelude.{ℕ, List, codes}
use Rattle.outside.specs.declared.types.Kind.{Kind}
use Rattle.outside.specs.declared.types.Kind.TheVariants.{Forwarded, For, Host, Proto, Port, By}

abbrev pub kind_name : Kind → List ℕ
kind_name Forwarded = codes "forwarded"
kind_name For = codes "x-forwarded-for"
kind_name Host = codes "x-forwarded-host"
kind_name Proto = codes "x-forwarded-proto"
kind_name Port = codes "x-forwarded-port"
kind_name By = codes "x-forwarded-by"
