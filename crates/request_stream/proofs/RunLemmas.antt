-- A piece in steps.
use Rattle.std.proofs.Common.{◌≡◌, ◌≤◌, ◌<◌, ◌+◌, ◌-◌, ℕ, Bool, false, List, [], ◌++◌, length, take}
use Rattle.std.proofs.Common.{drop, ap, sym, subst, ◌∙◌, arith}
use Rattle.std.proofs.lemmas.List.{take-append-drop, length-take, map-append}
use Rattle.std.proofs.lemmas.List.{take_rest}
use Rattle.std.proofs.Math.Seq.{take-append-add}
use Rattle.request_stream.specs.Grammar.{Grammar}
use Rattle.request_stream.specs.declared.types.Limits.{Limits}
use Rattle.request_stream.specs.declared.state.State.{State}
use Rattle.std.specs.List.{list_any}
use Rattle.request_stream.specs.Units.{Asked, closing, stamped}
use Rattle.request_stream.specs.Reading.{HasRead, Reads, GoesOn}
use Rattle.request_stream.proofs.UnitLemmas.{units-nil}
use Rattle.request_stream.proofs.LaterLemmas.{alike-same, reads-trans}
use Rattle.request_stream.proofs.Ways.{starts, goes_on}

take-add : (piece : List ℕ) (i j : ℕ) → i ≤ length piece → take (i + j) piece
    ≡ take i piece ++ take j (drop i piece)
take-add piece i j h =
    let l = length-take i piece in
    let n : i ≡ length (take i piece) = omega arith in
    ap (take (i + j)) (sym (take-append-drop i piece))
    ∙ (ap (λ m. take (m + j) (take i piece ++ drop i piece)) n
    ∙ take-append-add (take i piece) (drop i piece) j)

stamped-append : (now : ℕ) (a b : List ℕ) → stamped now (a ++ b) ≡ stamped now a ++ stamped now b
stamped-append now a b = map-append (λ (c : ℕ). (now, c)) a b

module _ (known : Grammar) where
  -- the stream at its beginning
  pub read_none : {S : Type 0} (tells : Bool) (limits : Limits) (state : State S) →
      0 < limits.max_head → GoesOn false state → HasRead tells limits state []
  read_none tells limits state h g = record {
    rest = [];
    alike = alike-same limits [];
    stands =
        starts tells limits state g;
    closed = ap (list_any closing) (units-nil known limits h)
        ∙ sym (goes_on state g);
  }

-- one step further into the piece
pub reads_more : {S : Type 0} (tells : Bool) (limits : Limits) (old mid new : State S) (now i j : ℕ)
    (piece : List ℕ) (us vs ws : List Asked) → 0 < limits.max_head → i ≤ length piece →
    Reads tells limits old mid (stamped now (take i piece)) us vs →
    Reads tells limits mid new (stamped now (take j (take (length piece - i) (drop i piece))))
    vs ws → Reads tells limits old new (stamped now (take (i + j) piece)) us ws
reads_more tells limits old mid new now i j piece us vs ws h within a b =
    let rest : take (length piece - i) (drop i piece) ≡ drop i piece = take_rest piece i in
    let parts : stamped now (take i piece) ++ stamped now
    (take j (take (length piece - i) (drop i piece))) ≡ stamped now (take (i + j) piece) =
    sym (stamped-append now (take i piece) (take j (take (length piece - i) (drop i piece))))
    ∙ ap (stamped now) (ap (λ r. take i piece ++ take j r) rest
    ∙ sym (take-add piece i j within)) in
    subst (λ p. Reads tells limits old new p us ws) parts
    (reads-trans tells limits old mid new (stamped now (take i piece))
    (stamped now (take j (take (length piece - i) (drop i piece)))) us vs ws h a b)
