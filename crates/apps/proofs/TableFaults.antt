-- No fault of a file is want of memory.
use Rattle.std.proofs.Common.{◌≡◌, ℕ, suc, Bool, true, false, cond, List, [], ◌∷◌, length, Option}
use Rattle.std.proofs.Common.{Some, None, Result, Ok, Err, ap}
use Rattle.std.specs.Prelude.{nat_le}
use Rattle.std.specs.Option.{ok_or}
use Rattle.toml.specs.Data.{Members}
use Rattle.apps.specs.Rows.{row_of}
use Rattle.apps.specs.Table.{◌>>=◌, document, few, rows_from, table_of, tables_of}
use Rattle.apps.specs.declared.fault.TableFault.{TableFault}
use Rattle.apps.specs.declared.fault.TableFault.TheVariants as fault

abbrev IsOther : {A : Type 0} → Result A TableFault → Type 0
IsOther r = r ≡ Err fault.NoMemory → ⊥

ok_other : {A : Type 0} (a : A) → IsOther (Ok a)
ok_other a e = cc

small_other : {A : Type 0} (b : Bool) (r : Result A TableFault) → IsOther r →
    IsOther (cond b r (Err fault.TooLarge))
small_other true r other = other
small_other false r other = λ e. cc

some_other : {A : Type 0} (b : Bool) (r : Result A TableFault) → IsOther r →
    IsOther (cond b r (Err fault.TooManyRows))
some_other true r other = other
some_other false r other = λ e. cc

then_other : {A B : Type 0} (r : Result A TableFault) (f : A → Result B TableFault) → IsOther r →
    ((a : A) → IsOther (f a)) → IsOther (r >>= f)
then_other (Ok a) f first next = next a
then_other (Err e) f first next = λ is. let same : e ≡ fault.NoMemory = cc in first (ap Err same)

toml_other : {A : Type 0} (o : Option A) → IsOther (ok_or o fault.NotToml)
toml_other None e = cc
toml_other (Some a) e = cc

table_other : {A : Type 0} (o : Option A) → IsOther (ok_or o fault.NotTable)
table_other None e = cc
table_other (Some a) e = cc

bad_other : {A : Type 0} (place : ℕ) (o : Option A) → IsOther (ok_or o (fault.BadRow place))
bad_other place None e = cc
bad_other place (Some a) e = cc

rows_other : (place : ℕ) (tables : List Members) → IsOther (rows_from place tables)
rows_other place [] = ok_other []
rows_other place (ms ∷ rest) =
    then_other (ok_or (row_of ms) (fault.BadRow place)) (λ first. rows_from (suc place) rest >>=
    (λ more. Ok (first ∷ more)))
    (bad_other place (row_of ms))
    (λ first. then_other (rows_from (suc place) rest) (λ more. Ok (first ∷ more))
    (rows_other (suc place) rest) (λ more. ok_other (first ∷ more)))

few_other : (tables : List Members) → IsOther (few tables)
few_other tables = some_other (nat_le (length tables) 1000) (Ok tables) (ok_other tables)

pub never_memory : (bytes : List ℕ) → table_of bytes ≡ Err fault.NoMemory → ⊥
unfolding table_of
never_memory bytes =
    then_other (cond (nat_le (length bytes) 1048576) (Ok bytes) (Err fault.TooLarge)) _
    (small_other (nat_le (length bytes) 1048576) (Ok bytes) (ok_other bytes))
    (λ small. then_other (ok_or (document small) fault.NotToml) _ (toml_other (document small))
    (λ document. then_other (ok_or (tables_of document) fault.NotTable) _
    (table_other (tables_of document))
    (λ tables. then_other (few tables) _ (few_other tables) (rows_other 0))))
