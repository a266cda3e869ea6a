use Rattle.std.proofs.Common.{[], ◌++◌, ◌<◌, arith, refl}
use Rattle.std.specs.Prelude.{Err, IfOk, None, Ok, Option, Some}
use Rattle.adjust.specs.Command.{command}
use Rattle.adjust.specs.Ranges.{IsInRange, KeepsRanges}
use Rattle.adjust.specs.declared.types.Adjustments.{Adjustments}
use Rattle.adjust.specs.declared.types.Command.TheVariants as command
use Rattle.channel.specs.Output.{Input, IsPrefix, Script, responses}
use Rattle.outside.specs.declared.types.Peer.{Peer}
use Rattle.request_stream.specs.declared.types.Limits.{Limits}
use Rattle.wsgi.specs.declared.site.Site.{Site}
use Rattle.waitress_serve.specs.Made.{Files, script_of}
use Rattle.waitress_serve.specs.Owed.{owed_by, owed_where}
use Rattle.waitress_serve.specs.Reading.{Reading}
use Rattle.waitress_serve.specs.Settings.{settings_for}
use Rattle.waitress_serve.proofs.laws.output_grows.Goals as goal

-- the answers to a longer input begin with those to a shorter one
abbrev ResponsesGrow : Type 0
ResponsesGrow = (limits : Limits) (site : Site) (script : Script) (peer : Peer) (x y : Input) →
    0 < limits.max_head →
    IsPrefix (responses limits site script peer x) (responses limits site script peer (x ++ y))

-- by the script of an application, where there is one
front_where : ResponsesGrow → (options : Adjustments) → IsInRange options →
    (script : Option Script) (peer : Peer) (x y : Input) →
    IsPrefix (owed_where options script peer x).output (owed_where options script peer
    (x ++ y)).output
front_where grow options ranges (Some script) peer x y =
    let some = ranges.max_request_header_size.from in
    grow (settings_for options).limits (settings_for options).site script peer x y
    (omega (arith, some))
front_where grow options ranges None peer x y = record { rest = []; whole = refl }

output_front : ResponsesGrow → (files : Files) (asked : Reading) → IfOk asked KeepsRanges →
    (peer : Peer) (x y : Input) →
    IsPrefix (owed_by files asked peer x).output (owed_by files asked peer (x ++ y)).output
output_front grow files (Ok (command.Serve options app)) ranges peer x y =
    front_where grow options ranges (script_of files app) peer x y
output_front grow files (Ok (command.Check options)) ranges peer x y =
    record { rest = []; whole = refl }
output_front grow files (Ok (command.Rehearse connections)) ranges peer x y =
    record { rest = []; whole = refl }
output_front grow files (Ok command.Help) ranges peer x y = record { rest = []; whole = refl }
output_front grow files (Err fault) ranges peer x y = record { rest = []; whole = refl }

pub returns : goal.returns
returns c = λ words files peer x y. output_front c.responses_grow.ensures files (command words)
    (c.ranges_are_kept.ensures words) peer x y
