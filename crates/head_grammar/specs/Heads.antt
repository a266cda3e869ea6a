-- What contracts see of a request head.
use Rattle.std.specs.Prelude.{ℕ, Bool, List}
use Rattle.head_grammar.specs.declared.types.Field.{Field}
use Rattle.head_grammar.specs.declared.types.Framing.{Framing}
use Rattle.head_grammar.specs.declared.types.Version.{Version}

-- what a request line says (RFC 9112, section 3); the target is as it was sent
pub record RequestLine : Type 0 where
  pub method : List ℕ
  pub target : List ℕ
  pub path : List ℕ
  pub query : List ℕ
  pub version : Version

pub record Head : Type 0 where
  pub method : List ℕ
  -- as it was sent
  pub target : List ℕ
  pub path : List ℕ
  pub query : List ℕ
  pub version : Version
  pub fields : List Field
  pub framing : Framing
  -- whether the client waits for 100 Continue
  pub expects : Bool
  -- whether the connection closes behind the response
  pub closes : Bool
  -- how many bytes the whole head has
  pub size : ℕ
