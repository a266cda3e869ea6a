-- What is read of the file of a table.
use Rattle.std.proofs.Common.{◌≡◌, ◌<◌, ◌∙◌, ℕ, Bool, false, IsTrue, List, length}
use Rattle.std.proofs.Common.{Option, None, Some, Err, ap, sym, subst}
use Rattle.std.proofs.Common.{arith}
use Rattle.std.specs.Prelude.{IsSomeAnd, nat_le, option_map}
use Rattle.std.proofs.lemmas.Bool.{lt-leb}
use Rattle.apps.specs.Table.{table_of}
use Rattle.apps.specs.declared.fault.TableFault.{TableFault}
use Rattle.apps.specs.declared.fault.TableFault.TheVariants.{TooLarge}
use Rattle.outside.specs.Causes.{added}
use Rattle.outside.specs.Tree.{content_of}
use Rattle.waitress_serve.specs.Made.{Files}
use Rattle.waitress_serve.specs.TableFile.{GivesBytes, ReadsTable}
use Rattle.waitress_serve.specs.declared.made.Unmade.{Unmade}
use Rattle.waitress_serve.specs.declared.made.Unmade.TheVariants as unmade

-- a file that is too large is no table
pub too_large : (bytes : List ℕ) → 1048576 < length bytes → table_of bytes ≡ Err TooLarge
unfolding table_of
too_large bytes large = let over : nat_le (length bytes) 1048576 ≡ false =
    lt-leb (length bytes) 1048576 large in rw over

module _ (told entries : Bool) (before now count : ℕ) (files : Files) (name : List ℕ)
    (file : Option (List ℕ))
    (known : IsTrue told → IsTrue entries × (file ≡ content_of files name))
    (settled : now ≡ added before count) where
  count_same : count ≡ 0 → now ≡ before
  count_same none = omega (arith, none, settled)

  -- they could not be
  pub none_read : (why : Unmade) → GivesBytes entries 0 count file (Err why) →
      ReadsTable told before now files name (Err why)
  none_read unmade.NoFile gives = (
    omega (arith, settled),
    (
      count_same gives.0,
      λ t. ap (λ f. option_map table_of f) (sym (known t).1 ∙ gives.1 (known t).0),
    ),
  )
  none_read unmade.Unreadable gives = (omega (arith, settled), omega (arith, settled, gives))
  none_read (unmade.Faulty fault) gives = (
    omega (arith, settled),
    (
      count_same gives.0,
      λ t. by fault gives.1 (content_of files name)
          (subst (λ f. IsSomeAnd f (λ bytes. 1048576 < length bytes)) (known t).1
          (gives.2 (known t).0)),
    ),
  )
    where
      by : (fault : TableFault) → fault ≡ TooLarge → (found : Option (List ℕ)) →
          IsSomeAnd found (λ bytes. 1048576 < length bytes) →
          option_map table_of found ≡ Some (Err fault)
      by fault is None large = absurd large
      by fault is (Some bytes) large = ap Some (too_large bytes large ∙ ap (λ f. Err f) (sym is))
