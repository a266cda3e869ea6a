-- What stands at the front of what was read.
use Rattle.std.proofs.Common.{◌≡◌, ◌≤◌, ◌<◌, ◌+◌, ◌-◌, ℕ, List, [], ◌∷◌, ◌++◌, length, take, drop}
use Rattle.std.proofs.Common.{None, Some, refl, ap, sym, ◌∙◌, cond, arith}
use Rattle.std.specs.Prelude.{nat_le}
use Rattle.std.proofs.lemmas.Bool.{le-leb, lt-leb}
use Rattle.std.proofs.lemmas.List.{take_all, length-drop}
use Rattle.request_stream.specs.Grammar.{Grammar}
use Rattle.request_stream.specs.declared.types.Limits.{Limits}
use Rattle.head_grammar.specs.Heads.{Head}
use Rattle.head_grammar.specs.declared.types.Framing.TheVariants.{Empty, Fixed, Chunked}
use Rattle.head_grammar.specs.Ends.{head_end}
use Rattle.chunk_body.specs.Bodies.{whole, partial}
use Rattle.request_stream.specs.Units.{coded_by, verdict_by, bytes_of, when, stamped, body_of}
use Rattle.request_stream.specs.Units.{waits, ends, too_large, front_by_body, front_by_head}
use Rattle.request_stream.specs.Units.{front_by_end, front}
use Rattle.request_stream.specs.Reading.{HeadIs}
use Rattle.request_stream.proofs.UnitLemmas.{length-bytes_of, window, window-still, head_within}
use Rattle.request_stream.proofs.UnitLemmas.{front_of-append, behind-append}
use Rattle.request_stream.proofs.Ways.{bytes_of-stamped}

-- a head that ends in the window
pub head_of : (limits : Limits) (x : List (ℕ × ℕ)) (n : ℕ) → head_end (window limits x) ≡ Some n →
    front limits x ≡ front_by_head limits x n (verdict_by limits (take n (bytes_of x)))
unfolding front
head_of limits x n e = ap (front_by_end limits x) e

pub body_front : (limits : Limits) (x : List (ℕ × ℕ)) (n : ℕ) (head : Head) →
    HeadIs limits x n head → front limits x ≡ front_by_body x n head
    (body_of limits head.framing (drop n (bytes_of x)))
body_front limits x n head h = head_of limits x n h.end ∙ ap (front_by_head limits x n) h.says

-- no head yet
pub none_full : (limits : Limits) (x : List (ℕ × ℕ)) → head_end (window limits x) ≡ None →
    front limits x ≡ cond (nat_le limits.max_head (length x))
    (ends (too_large limits (when x (limits.max_head - 1)) ∷ [])) (waits [])
unfolding front
none_full limits x e = ap (front_by_end limits x) e

pub front-none : (limits : Limits) (x : List (ℕ × ℕ)) (bytes : List ℕ) → bytes_of x ≡ bytes →
    head_end bytes ≡ None → length bytes < limits.max_head → front limits x ≡ waits []
front-none limits x bytes b e short =
    let l : length bytes ≡ length x = ap length (sym b) ∙ length-bytes_of x in
    let w : window limits x ≡ bytes = ap (take (limits.max_head - 1)) b
    ∙ take_all (limits.max_head - 1) bytes (omega arith) in
    none_full limits x (ap head_end w ∙ e) ∙ ap (λ t. cond t
    (ends (too_large limits (when x (limits.max_head - 1)) ∷ [])) (waits []))
    (lt-leb limits.max_head (length x) (omega arith))

pub front-large : (limits : Limits) (x : List (ℕ × ℕ)) (bytes : List ℕ) → bytes_of x ≡ bytes →
    head_end (take (limits.max_head - 1) bytes) ≡ None → limits.max_head ≤ length bytes →
    front limits x ≡ ends (too_large limits (when x (limits.max_head - 1)) ∷ [])
front-large limits x bytes b e long =
    let l : length bytes ≡ length x = ap length (sym b) ∙ length-bytes_of x in
    none_full limits x (ap (λ bs. head_end (take (limits.max_head - 1) bs)) b ∙ e)
    ∙ ap (λ t. cond t (ends (too_large limits (when x (limits.max_head - 1)) ∷ [])) (waits []))
    (le-leb limits.max_head (length x) (omega arith))

-- bodies at their beginning
pub empty_body : (limits : Limits) (xs : List ℕ) → body_of limits Empty xs ≡ whole 0 []
unfolding body_of
empty_body limits xs = refl

pub fixed_partial : (limits : Limits) (n : ℕ) (xs : List ℕ) → length xs < n →
    body_of limits (Fixed n) xs ≡ partial xs
unfolding body_of
fixed_partial limits n xs h = ap (λ t. cond t (whole n (take n xs)) (partial xs))
    (lt-leb n (length xs) h)

pub fixed_whole : (limits : Limits) (n : ℕ) (xs : List ℕ) → length xs ≡ n →
    body_of limits (Fixed n) xs ≡ whole n xs
unfolding body_of
fixed_whole limits n xs h = ap (λ t. cond t (whole n (take n xs)) (partial xs))
    (le-leb n (length xs) (omega arith)) ∙ ap (whole n) (take_all n xs (omega arith))

pub coded_body : (limits : Limits) (xs : List ℕ) → body_of limits Chunked xs ≡ coded_by limits xs
unfolding body_of
coded_body limits xs = refl

module _ (known : Grammar) where
  pub head-still : (limits : Limits) (x y : List (ℕ × ℕ)) (n : ℕ) (head : Head) →
      HeadIs limits x n head → HeadIs limits (x ++ y) n head
  head-still limits x y n head h = record {
    end = window-still known limits x y n h.end;
    says = ap (verdict_by limits) (front_of-append x y n (head_within known limits x n h.end))
        ∙ h.says;
  }

  pub behind_more : (limits : Limits) (z : List (ℕ × ℕ)) (n : ℕ) (head : Head) (now : ℕ)
      (piece : List ℕ) → HeadIs limits z n head → drop n (bytes_of (z ++ stamped now piece))
      ≡ drop n (bytes_of z) ++ piece
  behind_more limits z n head now piece is =
      behind-append z (stamped now piece) n (head_within known limits z n is.end)
      ∙ ap (λ bs. drop n (bytes_of z) ++ bs) (bytes_of-stamped now piece)

  pub behind_length : (limits : Limits) (z : List (ℕ × ℕ)) (n : ℕ) (head : Head) →
      HeadIs limits z n head → n + length (drop n (bytes_of z)) ≡ length z
  behind_length limits z n head is =
      let l = length-drop n (bytes_of z) in let b = length-bytes_of z in let w =
      head_within known limits z n is.end in omega arith
