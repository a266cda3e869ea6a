-- What stands between two places of a spill, and of a whole buffer.
use Rattle.std.proofs.Common.{◌≡◌, ◌≤◌, ◌<◌, ◌+◌, ◌-◌, ℕ, Bool, true, false, IsTrue, List, [], ◌++◌}
use Rattle.std.proofs.Common.{length, take, drop, refl, sym, ap, ◌∙◌, arith}
use Rattle.std.specs.Prelude.{replicate, Result, Ok, Err, OnErr}
use Rattle.std.proofs.lemmas.Bool.{false≢true}
use Rattle.std.proofs.lemmas.List.{append-nil, length-take, length-take-le, length-drop}
use Rattle.std.proofs.lemmas.List.{length-replicate, length-append, take-take, take_all}
use Rattle.std.proofs.lemmas.List.{drop-append-le, drop-take, drop_all}
use Rattle.spill_buffer.specs.Buffer.{stored, IsToldAs}

pub told_as : {tells : Bool} {bytes expected : List ℕ} → bytes ≡ expected → IsToldAs tells
    bytes expected
told_as e = record { size = ap length e; told = λ _. e }

pub length_stored : (tells : Bool) (content : List ℕ) (start end size : ℕ) →
    (IsTrue tells → length content ≡ size) → end ≤ size → length (stored tells content start end)
    ≡ end - start
length_stored true content start end size sized stands =
    let full : length content ≡ size = sized refl in
    length-drop start (take end content) ∙ ap (λ n. n - start)
    (length-take-le end content (omega (arith, full, stands)))
length_stored false content start end size sized stands = length-replicate (end - start) 0

pub none_stored : (tells : Bool) (content : List ℕ) (start end : ℕ) → end ≤ start → stored tells
    content start end ≡ []
none_stored true content start end none = drop_all start (take end content)
    (omega (arith, length-take end content, none))
none_stored false content start end none =
    let nothing : end - start ≡ 0 = omega (arith, none) in ap (λ n. replicate n 0) nothing

pub more_stored : (tells : Bool) (old new from : List ℕ) (start end size : ℕ) →
    (IsTrue tells → length old ≡ size) → (IsTrue tells → new ≡ take end old ++ from) → start ≤ end
    → end ≤ size →
    IsToldAs tells (stored tells new start (end + length from)) (stored tells old start end ++ from)
more_stored true old new from start end size sized wrote ordered stands =
    let full : length old ≡ size = sized refl in
    let front : length (take end old) ≡ end = length-take-le end old
    (omega (arith, full, stands)) in
    let whole : length (take end old ++ from) ≡ end + length from = length-append (take end old)
    from ∙ ap (λ n. n + length from) front in
    told_as (ap (λ xs. drop start (take (end + length from) xs)) (wrote refl)
    ∙ ap (drop start) (take_all (end + length from) (take end old ++ from) (omega (arith, whole)))
    ∙ drop-append-le start (take end old) from (omega (arith, front, ordered)))
more_stored false old new from start end size sized wrote ordered stands =
    let sum : end + length from - start ≡ (end - start) + length from = omega (arith, ordered) in
    record {
      size = length-replicate (end + length from - start) 0 ∙ sum
          ∙ sym (length-append (replicate (end - start) 0) from ∙ ap (λ n. n + length from)
          (length-replicate (end - start) 0));
      told = λ told. absurd (false≢true told);
    }

pub all_stored : (tells : Bool) (content first second : List ℕ) →
    (IsTrue tells → content ≡ first ++ second) → IsToldAs tells
    (stored tells content 0 (length first + length second)) (first ++ second)
all_stored true content first second fills =
    told_as (ap (λ xs. take (length first + length second) xs) (fills refl) ∙ take_all
    (length first + length second) (first ++ second) (omega
    (arith, length-append first second)))
all_stored false content first second fills =
    let sum : length first + length second - 0 ≡ length first + length second = omega arith in
    record {
      size = length-replicate (length first + length second - 0) 0 ∙ sum ∙ sym
          (length-append first second);
      told = λ told. absurd (false≢true told);
    }

pub front_stored : (tells : Bool) (content : List ℕ) (start end n : ℕ) → IsTrue tells → start ≤ end
    → n ≤ end - start → take n (drop start content) ≡ take n (stored tells content start end)
front_stored true content start end n told ordered fits =
    let whole : start + (end - start) ≡ end = omega (arith, ordered) in
    sym (ap (λ e. take n (drop start (take e content))) (sym whole)
    ∙ ap (take n) (drop-take start (end - start) content)
    ∙ take-take n (end - start) (drop start content) fits)
front_stored false content start end n told ordered fits = absurd (false≢true told)

-- The bytes in memory and those in the spill.
pub length_whole : (tells : Bool) (memory content : List ℕ) (skipped start end size : ℕ) →
    (IsTrue tells → length content ≡ size) → end ≤ size →
    length (drop skipped memory ++ stored tells content start end) ≡ (length memory - skipped) +
    (end - start)
length_whole tells memory content skipped start end size sized stands =
    length-append (drop skipped memory) (stored tells content start end)
    ∙ ap (λ n. n + length (stored tells content start end)) (length-drop skipped memory)
    ∙ ap (λ n. (length memory - skipped) + n) (length_stored tells content start end size
    sized stands)

-- All bytes stand in memory.
pub only_memory : (tells : Bool) (bytes memory content : List ℕ) (skipped start end : ℕ) → drop
    skipped memory ++ stored tells content start end ≡ bytes → end ≤ start → bytes ≡ drop
    skipped memory
only_memory tells bytes memory content skipped start end whole none =
    sym whole ∙ ap (λ xs. drop skipped memory ++ xs) (none_stored tells content start end none) ∙
    append-nil (drop skipped memory)

-- All bytes stand in the spill.
pub only_stored : (bytes memory there : List ℕ) (skipped : ℕ) → drop skipped memory ++ there ≡ bytes
    → memory ≡ [] → bytes ≡ there
only_stored bytes memory there skipped whole empty =
    sym whole ∙ ap (λ xs. xs ++ there) (drop_all skipped memory (omega (arith, ap length empty)))

pub as_told : {tells : Bool} {one same other equal : List ℕ} → one ≡ same → other ≡ equal → IsToldAs
    tells same equal → IsToldAs tells one other
as_told {tells} e f holds = record {
  size = ap length e ∙ holds.size ∙ sym (ap length f);
  told = λ tells. e ∙ holds.told tells ∙ sym f;
}

-- more bytes behind those that stand in the spill
pub follows : (tells : Bool) (bytes memory old new from : List ℕ) (skipped start end after size : ℕ)
    → (IsTrue tells → length old ≡ size) → (IsTrue tells → new ≡ take end old ++ from) →
    start ≤ end → end ≤ size → memory ≡ [] → after ≡ end + length from → drop skipped memory ++
    stored tells old start end ≡ bytes →
    IsToldAs tells (drop skipped memory ++ stored tells new start after) (bytes ++ from)
follows tells bytes memory old new from skipped start end after size sized wrote ordered stands
    empty ends whole =
    as_told (ap (λ xs. xs ++ stored tells new start after) (drop_all skipped memory
    (omega (arith, ap length empty)))
    ∙ ap (stored tells new start) ends)
    (ap (λ xs. xs ++ from) (only_stored bytes memory (stored tells old start end) skipped
    whole empty))
    (more_stored tells old new from start end size sized wrote ordered stands)

-- all bytes of the memory, and more, move to the spill
pub moves : (tells : Bool) (bytes first content from cleared : List ℕ) (after : ℕ) →
    (IsTrue tells → content ≡ first ++ from) → after ≡ length first + length from → first ≡ bytes →
    cleared ≡ [] →
    IsToldAs tells (cleared ++ stored tells content 0 after) (bytes ++ from)
moves tells bytes first content from cleared after fills ends is empty =
    as_told (ap (λ xs. xs ++ stored tells content 0 after) empty ∙ ap (stored tells content 0) ends)
    (ap (λ xs. xs ++ from) (sym is))
    (all_stored tells content first from fills)

-- where some bytes stand in the spill, not all are in memory
pub some_spilled : (tells : Bool) (bytes memory content : List ℕ)
    (skipped start end size in_memory : ℕ) → (IsTrue tells → length content ≡ size) → end ≤ size →
    drop skipped memory ++ stored tells content start end ≡ bytes → length memory - skipped ≡
    in_memory → start < end → in_memory < length bytes
some_spilled tells bytes memory content skipped start end size in_memory sized stands
    whole held some =
    let long : length (drop skipped memory ++ stored tells content start end) ≡
    (length memory - skipped) + (end - start) = length_whole tells memory content skipped start
    end size sized stands in
    let same : length (drop skipped memory ++ stored tells content start end) ≡ length bytes = ap
    length whole in
    omega (arith, long, same, held, some)

pub not_all : (tells : Bool) (bytes memory content : List ℕ)
    (skipped start end size in_memory : ℕ) → (IsTrue tells → length content ≡ size) → end ≤ size →
    drop skipped memory ++ stored tells content start end ≡ bytes → length memory - skipped ≡
    in_memory → start < end → in_memory ≡ length bytes → ⊥
not_all tells bytes memory content skipped start end size in_memory sized stands whole held some
    all =
    let more : in_memory < length bytes = some_spilled tells bytes memory content skipped start end
    size in_memory sized stands whole held some in
    omega (arith, more, all)

-- and where none do, all are
pub none_spilled : (tells : Bool) (bytes memory content : List ℕ) (skipped start end in_memory : ℕ)
    → drop skipped memory ++ stored tells content start end ≡ bytes →
    length memory - skipped ≡ in_memory → end ≤ start → length bytes ≡ in_memory
none_spilled tells bytes memory content skipped start end in_memory whole held none =
    ap length (only_memory tells bytes memory content skipped start end whole none) ∙ length-drop
    skipped memory ∙ held

-- the memory behind an append
pub grown : (memory closed from after : List ℕ) (skipped left in_memory : ℕ) → drop left closed ≡
    drop skipped memory → left ≤ length closed → after ≡ closed ++ from → length memory - skipped
    ≡ in_memory →
    length after - left ≡ in_memory + length from
grown memory closed from after skipped left in_memory same within longer held =
    let kept : length (drop left closed) ≡ length (drop skipped memory) = ap length same in
    let grew : length after ≡ length (closed ++ from) = ap length longer in
    omega (
      arith,
      kept,
      grew,
      held,
      within,
      length-drop left closed,
      length-drop skipped memory,
      length-append closed from,
    )

pub on_err : {T E P : Type 0} (result : Result T E) → P → OnErr result P
on_err (Ok _) _ = tt
on_err (Err _) holds = holds
