-- Internal: how the bytes of a piece are sent, and what is left of the layout behind them.
use Rattle.std.specs.Prelude.{ℕ, ◌-◌, List, [], length, take, codes, if◌then◌else◌}
use Rattle.task_core.specs.Answer.{chunk}
use Rattle.task_core.specs.Scripts.{has_bytes}
use Rattle.task_core.specs.declared.layout.Layout.{Layout}
use Rattle.task_core.specs.declared.layout.Layout.TheVariants.{NoContent, NotModified, HeadOnly}
use Rattle.task_core.specs.declared.layout.Layout.TheVariants.{Known, Chunked, UntilClose}

abbrev pub passed : Layout → List ℕ → List ℕ
passed NoContent bytes = []
passed (NotModified declared) bytes = []
passed (HeadOnly known) bytes = []
passed (Known left) bytes = take left bytes
passed Chunked bytes = if has_bytes bytes then chunk bytes else []
passed UntilClose bytes = bytes

abbrev pub left_behind : Layout → List ℕ → Layout
left_behind NoContent bytes = NoContent
left_behind (NotModified declared) bytes = NotModified declared
left_behind (HeadOnly known) bytes = HeadOnly known
left_behind (Known left) bytes = Known (left - length bytes)
left_behind Chunked bytes = Chunked
left_behind UntilClose bytes = UntilClose

-- what stands behind the last piece
abbrev pub ending : Layout → List ℕ
ending NoContent = []
ending (NotModified declared) = []
ending (HeadOnly known) = []
ending (Known left) = []
ending Chunked = codes "0\r\n\r\n"
ending UntilClose = []
