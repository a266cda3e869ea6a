-- White space in front ends at the first other byte.
use Rattle.std.proofs.Common.{◌-◌, ap, drop, length, ◌∙◌, arith}
use Rattle.std.proofs.lemmas.List.{take_all, length-drop}
use Rattle.std.specs.Prelude.{unwrap_or}
use Rattle.byte_tables.specs.Classes.{is_white_space}
use Rattle.byte_tables.proofs.ListEnds.{first_other}
use Rattle.head_grammar.proofs.classes.trim_front.Goals as goal

pub returns : goal.returns
returns c =
    let count = c.unwrap_or-count.ensures ∙ (ap (λ r. unwrap_or r (length c.args.bytes.now))
    c.place_of_other.ensures.place ∙ first_other is_white_space c.args.bytes.now) in
    take_all (length c.args.bytes.now - c.unwrap_or-count.result)
    (drop c.unwrap_or-count.result c.args.bytes.now)
    (omega (arith, length-drop c.unwrap_or-count.result c.args.bytes.now)) ∙
    ap (λ n. drop n c.args.bytes.now) count
