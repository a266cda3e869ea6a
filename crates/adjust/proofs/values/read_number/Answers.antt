-- One or more digits have a number, which a u64 has or has not.
use Rattle.std.proofs.Common.{◌≡◌, ◌∙◌, None, ap, sym, true}
use Rattle.std.specs.Prelude.{if◌then◌else◌}
use Rattle.std.specs.Str.Parse.{digits_value}
use Rattle.byte_tables.specs.Numbers.{is_number}
use Rattle.adjust.specs.Values.{as_u64, number}
use Rattle.adjust.proofs.Numbers.{read_u64}
use Rattle.adjust.proofs.values.read_number.Goals as goal

pub returns-then-is_number : goal.returns-then-is_number
unfolding number
returns-then-is_number c =
    let text = c.args.text.now in
    let is : is_number text ≡ true = sym c.is_number.ensures.number ∙ c.if-is_number.true in
    read_u64 c.number_of.result (digits_value 10 text) c.number_of.ensures.value
    ∙ sym (ap (λ t. if t then as_u64 (digits_value 10 text) else None) is)
