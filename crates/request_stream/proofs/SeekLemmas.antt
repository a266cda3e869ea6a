-- Where the head that is sought ends in the piece.
use Rattle.std.proofs.Common.{false, ◌≡◌, ◌≤◌, ◌<◌, ◌+◌, ◌-◌, ℕ, min, List, ◌++◌, length, take}
use Rattle.std.proofs.Common.{None, Some, ap, sym, subst, ◌∙◌, arith, length-append, inl}
use Rattle.std.specs.Prelude.{Bool, Option, Result, Ok, Err, IfOk, IfSome}
use Rattle.std.proofs.lemmas.List.{take-take, length-take, take_min}
use Rattle.std.proofs.Math.Seq.{take-append-add}
use Rattle.head_grammar.specs.Ends.{head_end}
use Rattle.request_stream.specs.Reading.{StandsFor, Reads, is_over, IsSoundHead, LeadsBy, SeeksOn}
use Rattle.request_stream.specs.Reading.{FoundAt, EndsBy}
use Rattle.request_stream.specs.Units.{verdict_by, Asked, bytes_of, stamped}
use Rattle.request_stream.specs.declared.state.State.{State}
use Rattle.request_stream.specs.declared.state.Step.{Step}
use Rattle.request_stream.specs.declared.types.Limits.{Limits}
use Rattle.request_stream.proofs.HeadMoves.{reads_seek}

-- the first n bytes of what is held and of the piece
pub cut_is : (items held piece : List ℕ) (t n before : ℕ) → items ≡ held ++ take t piece →
    before ≡ length held → before < n → n ≤ length items →
    take n items ≡ held ++ take (n - before) piece
cut_is items held piece t n before e b low high =
    let j : ℕ = n - before in
    let count : length items ≡ length held + length (take t piece) =
    ap length e ∙ length-append held (take t piece) in
    let lt = length-take t piece in
    let sum : n ≡ length held + j = omega arith in
    ap (take n) e ∙ (ap (λ m. take m (held ++ take t piece)) sum
    ∙ (take-append-add held (take t piece) j ∙ ap (λ bs. held ++ bs)
    (take-take j t piece (omega arith))))

-- a head that was found in the first n bytes
pub ends_head : {S : Type 0} (limits : Limits) (items held more : List ℕ) (before n now : ℕ)
    (new : State S) (us vs : List Asked) → FoundAt items before limits.max_head n →
    take n items ≡ held ++ more →
    LeadsBy (verdict_by limits (take n items)) limits now new us vs →
    SeeksOn limits held more now new us vs
ends_head limits items held more before n now new us vs f cut l =
    let high = f.high in
    let ln = length-take n items in
    let size : length (held ++ more) ≡ n = ap length (sym cut)
    ∙ (let s : length (take n items) ≡ n = omega arith in s) in
    let short = f.short in
    inl (record {
      end = ap head_end (sym cut) ∙ (f.end ∙ ap Some (sym size));
      short = omega arith;
      leads = subst (λ bs. LeadsBy (verdict_by limits bs) limits now new us vs) cut l;
    })

-- the answer of a search in the first w bytes
pub ends_by : (r : Option ℕ) (bytes : List ℕ) (before max_head w : ℕ) → before < max_head →
    w ≡ min (length bytes) (max_head - 1) → r ≡ head_end (take w bytes) →
    IfSome r (λ n. before < n) →
    IfSome r (λ n. n ≤ length (take w bytes)) →
    IfSome r (λ n. head_end (take n (take w bytes)) ≡ Some n) → EndsBy r bytes before max_head
ends_by None bytes before max_head w short w_is e behind within cut =
    let flip : w ≡ min (max_head - 1) (length bytes) = omega arith in
    sym (e ∙ ap head_end (ap (λ m. take m bytes) flip ∙ take_min (max_head - 1) bytes))
ends_by (Some n) bytes before max_head w short w_is e behind within cut =
    let count = length-take w bytes in
    record {
      low = behind;
      high = omega arith;
      short = omega arith;
      end = ap head_end (sym (take-take n w bytes (omega arith))) ∙ cut;
    }

-- what the piece adds to a head that is sought
pub seek_reads : {S E : Type 0} (r : Result (Step S) E) (tells : Bool) (limits : Limits)
    (old : State S) (held piece : List ℕ) (now : ℕ) (us vs : List Asked) → 0 < limits.max_head →
    is_over old ≡ false →
    ((z : List (ℕ × ℕ)) → StandsFor tells limits old z → bytes_of z ≡ held) →
    IsSoundHead limits held → IfOk r (λ s. (0 < s.taken) × (s.taken ≤ length piece)) →
    IfOk r (λ s. SeeksOn limits held (take s.taken piece) now s.state us vs) →
    IfOk r (λ s. Reads tells limits old s.state (stamped now (take s.taken piece)) us vs)
seek_reads (Err e) tells limits old held piece now us vs h over is o t k = tt
seek_reads (Ok s) tells limits old held piece now us vs h over is o t k =
    let low = t.0 in let high = t.1 in let l = length-take s.taken piece in
    reads_seek tells limits old s.state held (take s.taken piece) now us vs h over is o
    (omega arith) k
