-- Each class is held against the table at the 256 bytes, by computing.
use Rattle.std.proofs.Common.{◌≡◌, ◌<◌, ℕ, Bool, true, get_or, refl, arith, List}
use Rattle.std.specs.Prelude.{nat_lt}
use Rattle.std.proofs.lemmas.Bool.{agree_below, agree_below_at, ltb-true}
use Rattle.byte_tables.specs.declared.classes.fn.class_of.TheConstants.{CLASSES}
use Rattle.byte_tables.specs.Classes.{is_in, is_token, is_field, is_target, is_digit, is_hex}
use Rattle.byte_tables.proofs.classes.class_of.Goals as goal

-- the rule of a table at one byte, from the rule at all of them
at_byte : (table : List ℕ) (bit : ℕ) (class : ℕ → Bool) (b : ℕ) → b < 256 →
    agree_below (λ k. is_in bit (get_or table k 0)) class 256 ≡ true →
    is_in bit (get_or table b 0) ≡ class b
at_byte table bit class b small all =
    agree_below_at (λ k. is_in bit (get_or table k 0)) class 256 b all small

pub returns-clause-token : goal.returns-clause-token
returns-clause-token c = at_byte CLASSES 1 is_token c.args.byte (omega arith) refl

pub returns-clause-field : goal.returns-clause-field
returns-clause-field c = at_byte CLASSES 2 is_field c.args.byte (omega arith) refl

pub returns-clause-target : goal.returns-clause-target
returns-clause-target c = at_byte CLASSES 4 is_target c.args.byte (omega arith) refl

pub returns-clause-digit : goal.returns-clause-digit
returns-clause-digit c = at_byte CLASSES 8 is_digit c.args.byte (omega arith) refl

pub returns-clause-hex : goal.returns-clause-hex
returns-clause-hex c = at_byte CLASSES 16 is_hex c.args.byte (omega arith) refl

pub returns-clause-no_other : goal.returns-clause-no_other
returns-clause-no_other c =
    ltb-true _ 32
    (agree_below_at (λ k. nat_lt (get_or CLASSES k 0) 32) (λ _. true) 256 c.args.byte refl
    (omega arith))
