-- That what a rehearsal's connection sends asks for something that closes it.
use Rattle.std.proofs.Common.{◌≡◌, ◌<◌, ◌≤◌, ◌+◌, ◌-◌, ◌%◌, ◌^◌, ℕ, zero, suc, Bool, true, false}
use Rattle.std.proofs.Common.{List, [], ◌∷◌, ◌++◌}
use Rattle.std.proofs.Common.{length, map, take, drop, None, Some, refl, ap, sym, subst, ◌∙◌, cond}
use Rattle.std.proofs.Common.{arith, inl, inr}
use Rattle.std.proofs.Common.{append_assoc, length-append, take-append-drop, take_all}
use Rattle.std.specs.Prelude.{Option, ◌==◌, ◌||◌, nat_le, decimal}
use Rattle.std.specs.List.{concat, list_any, range_with_len}
use Rattle.std.proofs.Math.Seq.{drop-append_seam, take-append_seam}
use Rattle.std.proofs.lemmas.Bool.{le-leb}
use Rattle.std.proofs.lemmas.Bool.Decides.{leb_tells}
use Rattle.std.proofs.lemmas.List.{drop-map, length-map}
use Rattle.std.proofs.lemmas.List.Folds.{list_any-append}
use Rattle.std.proofs.lemmas.List.FromFn.{length-map-range_with_len}
use Rattle.chunk_body.specs.Bodies.{Body, whole, wrong, partial}
use Rattle.head_grammar.specs.Ends.{head_end}
use Rattle.head_grammar.specs.Framings.{fixed}
use Rattle.head_grammar.specs.declared.types.Framing.TheVariants.{Empty, Fixed}
use Rattle.head_grammar.specs.Heads.{Head}
use Rattle.head_grammar.specs.declared.types.Parsed.{Parsed}
use Rattle.head_grammar.specs.declared.types.Parsed.TheVariants.{Blank, Good, Bad}
use Rattle.rehearsal.specs.Requests.{body_byte, body_length, input_of, request_count, request_of}
use Rattle.rehearsal.specs.Requests.{body_of as requested}
use Rattle.request_stream.specs.Units.{Asked, Front, waits, ends, goes, body_of, bytes_of, closing}
use Rattle.request_stream.specs.Units.{follow, front, front_by_body, front_by_end, front_by_head}
use Rattle.request_stream.specs.Units.{request, too_large, units, verdict_by, welcome, when}
use Rattle.request_stream.specs.declared.types.Limits.{Limits}
use Rattle.rehearse.proofs.HeadFields.{lines_of}
use Rattle.rehearse.proofs.HeadTexts.{are_lines, text, text_end}
use Rattle.rehearse.proofs.HeadVerdicts.{Says, head_says}
use Rattle.rehearse.proofs.RequestTexts.{first_line, lines_plain, request_text}

-- ---- what stands at the front

-- something that closes, or so many bytes, which are not the last request
abbrev pub FrontSays : Bool → ℕ → Front → Type 0
FrontSays closes taken (waits us) = ⊥
FrontSays closes taken (ends us) = list_any closing us ≡ true
FrontSays closes taken (goes us k) = (k ≡ taken) × (closes ≡ false)

abbrev BodyIs : ℕ → Body → Type 0
BodyIs n (whole k content) = k ≡ n
BodyIs n (wrong place refusal) = ⊥
BodyIs n (partial content) = ⊥

is_zero : (n : ℕ) → (n == 0) ≡ true → n ≡ 0
is_zero n h = grind (arith, h)

body_is : (limits : Limits) (n : ℕ) (bytes : List ℕ) → n ≤ length bytes →
    BodyIs n (body_of limits (fixed n) bytes)
unfolding body_of
body_is limits n bytes room = by (n == 0) (is_zero n)
  where
    by : (t : Bool) → (t ≡ true → n ≡ 0) → BodyIs n (body_of limits (cond t Empty (Fixed n)) bytes)
    by true h = sym (h refl)
    by false h = subst (λ t. BodyIs n (cond t (whole n (take n bytes)) (partial bytes)))
        (sym (le-leb n (length bytes) room)) refl

or_true : (a b : Bool) → b ≡ true → (a || b) ≡ true
or_true true b h = refl
or_true false b h = h

by_closing : (t closes : Bool) (us : List Asked) (k : ℕ) → (closes ≡ true → t ≡ true) →
    (t ≡ true → list_any closing us ≡ true) → FrontSays closes k (cond t (ends us) (goes us k))
by_closing true closes us k h any = any refl
by_closing false true us k h any = let e : false ≡ true = h refl in cc
by_closing false false us k h any = (refl, refl)

request_closes : (head : Head) (content : List ℕ) (moment : ℕ) → head.closes ≡ true →
    list_any closing (welcome head ++ request head content moment ∷ []) ≡ true
request_closes head content moment h =
    list_any-append closing (welcome head) (request head content moment ∷ [])
    ∙ or_true (list_any closing (welcome head))
    (list_any closing (request head content moment ∷ []))
    (ap (λ t. t || false) h)

body_front : (x : List (ℕ × ℕ)) (size n : ℕ) (closes : Bool) (head : Head) (body : Body) →
    BodyIs n body →
    (closes ≡ true → head.closes ≡ true) → FrontSays closes (size + n)
    (front_by_body x size head body)
body_front x size n closes head (whole k content) is h =
    subst (λ m. FrontSays closes (size + m) (front_by_body x size head (whole k content))) is
    (by_closing head.closes closes (welcome head ++ request head content (when x (size + k - 1)) ∷
    []) (size + k) h
    (request_closes head content (when x (size + k - 1))))
body_front x size n closes head (wrong place refusal) is h = absurd is
body_front x size n closes head (partial content) is h = absurd is

head_front : (limits : Limits) (x : List (ℕ × ℕ)) (size n : ℕ) (closes : Bool) (parsed : Parsed) →
    Says closes n parsed →
    n ≤ length (drop size (bytes_of x)) → FrontSays closes (size + n)
    (front_by_head limits x size parsed)
head_front limits x size n closes Blank s room = absurd s
head_front limits x size n closes (Bad refusal version bodyless) s room = refl
head_front limits x size n closes (Good head) s room =
    body_front x size n closes head (body_of limits head.framing (drop size (bytes_of x)))
    (subst (λ f. BodyIs n (body_of limits f (drop size (bytes_of x)))) (sym s.0)
    (body_is limits n (drop size (bytes_of x)) room))
    s.1

end_front : (limits : Limits) (x : List (ℕ × ℕ)) (size n : ℕ) (closes : Bool) (place : Option ℕ) →
    ((k : ℕ) → place ≡ Some k → k ≡ size) → (place ≡ None →
    nat_le limits.max_head (length x) ≡ true) →
    Says closes n (verdict_by limits (take size (bytes_of x))) →
    n ≤ length (drop size (bytes_of x)) →
    FrontSays closes (size + n) (front_by_end limits x place)
end_front limits x size n closes (Some k) at none s room =
    subst (λ m. FrontSays closes (size + n) (front_by_head limits x m
    (verdict_by limits (take m (bytes_of x))))) (sym (at k refl))
    (head_front limits x size n closes (verdict_by limits (take size (bytes_of x))) s room)
end_front limits x size n closes None at none s room =
    subst (λ t. FrontSays closes (size + n) (cond t
    (ends (too_large limits (when x (limits.max_head - 1)) ∷ [])) (waits [])))
    (sym (none refl)) refl

same_some : (a b : ℕ) → Some a ≡ Some b → a ≡ b
same_some a b h = cc

-- the laws of heads and of units
pub record Known : Type 0 where
  pub settled : (bytes more : List ℕ) (n : ℕ) → head_end bytes ≡ Some n →
      head_end (bytes ++ more) ≡ Some n
  pub follows : (limits : Limits) (x : List (ℕ × ℕ)) → 0 < limits.max_head →
      units limits x ≡ follow (units limits) x (front limits x)

module _ (known : Known) where
  front_says : (limits : Limits) (x : List (ℕ × ℕ)) (size n : ℕ) (closes : Bool) →
      head_end (bytes_of x) ≡ Some size →
      Says closes n (verdict_by limits (take size (bytes_of x))) →
      n ≤ length (drop size (bytes_of x)) →
      FrontSays closes (size + n) (front limits x)
  unfolding front
  front_says limits x size n closes there s room =
      let bytes : List ℕ = bytes_of x in
      let most : ℕ = limits.max_head - 1 in
      end_front limits x size n closes (head_end (take most bytes))
      (λ k e. same_some k size
      (sym (subst (λ xs. head_end xs ≡ Some k) (take-append-drop most bytes)
      (known.settled (take most bytes) (drop most bytes) k e))
      ∙ there))
      (λ none. elim (leb_tells limits.max_head (length x)) [
        | inl w ↦ w.0
        | inr w ↦ absurd (
            let short : length x < limits.max_head = w.1 in
            let count : length bytes ≡ length x = length-map {B = ℕ} x (λ (p : ℕ × ℕ). p.1) in
            let all : take most bytes ≡ bytes = take_all most bytes (omega (arith, short, count)) in
            let both : None ≡ Some size = sym none ∙ (ap head_end all ∙ there) in
            cc)
      ])
      s room

  follow_closes : (limits : Limits) (x : List (ℕ × ℕ)) (taken : ℕ) (closes : Bool) (f : Front) →
      FrontSays closes taken f →
      (closes ≡ false → list_any closing (units limits (drop taken x)) ≡ true) →
      list_any closing (follow (units limits) x f) ≡ true
  follow_closes limits x taken closes (waits us) s behind = absurd s
  follow_closes limits x taken closes (ends us) s behind = s
  follow_closes limits x taken closes (goes us k) s behind =
      list_any-append closing us (units limits (drop k x))
      ∙ or_true (list_any closing us) (list_any closing (units limits (drop k x)))
      (subst (λ m. list_any closing (units limits (drop m x)) ≡ true) (sym s.0) (behind s.1))

  -- a head of these lines, a body, and what follows
  lines_close : (limits : Limits) → 0 < limits.max_head →
      (x : List (ℕ × ℕ)) (line : List ℕ) (closes : Bool) (n : ℕ) (body rest : List ℕ) →
      n < 2 ^ 64 → are_lines (line ∷ lines_of closes (decimal n)) ≡ true → length body ≡ n →
      bytes_of x ≡ text (line ∷ lines_of closes (decimal n)) ++ (13 ∷ 10 ∷ (body ++ rest)) →
      (closes ≡ false → (y : List (ℕ × ℕ)) → bytes_of y ≡ rest →
      list_any closing (units limits y) ≡ true) →
      list_any closing (units limits x) ≡ true
  lines_close limits some x line closes n body rest small plain full is behind =
      let lines : List ℕ = text (line ∷ lines_of closes (decimal n)) in
      let head : List ℕ = lines ++ (13 ∷ 10 ∷ []) in
      let size : ℕ = length lines + 2 in
      let counted : length head ≡ size = length-append lines (13 ∷ 10 ∷ []) in
      let parts : bytes_of x ≡ head ++ (body ++ rest) =
      is ∙ sym (append_assoc lines (13 ∷ 10 ∷ []) (body ++ rest)) in
      let front_is : take size (bytes_of x) ≡ head =
      ap (λ xs. take size xs) parts ∙ (ap (λ m. take m (head ++ (body ++ rest))) (sym counted) ∙
      take-append_seam head (body ++ rest)) in
      let back_is : drop size (bytes_of x) ≡ body ++ rest =
      ap (λ xs. drop size xs) parts ∙ (ap (λ m. drop m (head ++ (body ++ rest))) (sym counted) ∙
      drop-append_seam head (body ++ rest)) in
      let room : n ≤ length (drop size (bytes_of x)) =
      (let l = ap length back_is in let k =
      length-append body rest in omega (arith, l, k, full)) in
      let place : head_end (bytes_of x) ≡ Some size =
      ap head_end is ∙ text_end line (lines_of closes (decimal n)) (body ++ rest) plain in
      let says : Says closes n (verdict_by limits (take size (bytes_of x))) =
      subst (λ xs. Says closes n (verdict_by limits xs)) (sym front_is)
      (head_says closes n limits.max_body line small plain) in
      let longer : List ℕ = head ++ body in
      let sum : length longer ≡ size + n = length-append head body ∙ omega (arith, counted, full) in
      let left : bytes_of (drop (size + n) x) ≡ rest =
      sym (drop-map (λ (p : ℕ × ℕ). p.1) (size + n) x)
      ∙ (ap (λ xs. drop (size + n) xs) (parts ∙ sym (append_assoc head body rest))
      ∙ (ap (λ m. drop m (longer ++ rest)) (sym sum) ∙ drop-append_seam longer rest)) in
      ap (λ us. list_any closing us) (known.follows limits x some)
      ∙ follow_closes limits x (size + n) closes (front limits x)
      (front_says limits x size n closes place says room)
      (λ open'. behind open' (drop (size + n) x) left)

  -- ---- the requests from one on

  other : (number more count : ℕ) → number + suc (suc more) ≡ count → (number + 1 == count) ≡ false
  other number more count h = grind (arith, h)

  same : (number count : ℕ) → number + 1 ≡ count → (number + 1 == count) ≡ true
  same number count h = grind (arith, h)

  short_body : (connection number : ℕ) → body_length connection number < 2 ^ 64
  short_body connection number = omega arith

  one_closes : (limits : Limits) → 0 < limits.max_head → (connection number : ℕ) (closes : Bool) →
      connection < 2 ^ 64 → number < 2 ^ 64 → (number + 1 == request_count connection) ≡ closes →
      (x : List (ℕ × ℕ)) (rest : List ℕ) → bytes_of x ≡ request_of connection number ++ rest →
      (closes ≡ false → (y : List (ℕ × ℕ)) → bytes_of y ≡ rest →
      list_any closing (units limits y) ≡ true) →
      list_any closing (units limits x) ≡ true
  one_closes limits some connection number closes h k is x rest bytes behind =
      let small = short_body connection number in
      let n : ℕ = body_length connection number in
      lines_close limits some x (first_line connection number) closes n
      (requested connection number) rest small
      (lines_plain connection number closes h k small)
      (length-map-range_with_len (body_byte connection number) 0 n)
      (bytes ∙ request_text connection number closes rest is) behind

  from_one : (limits : Limits) → 0 < limits.max_head → (connection : ℕ) → connection < 2 ^ 64 →
      (more number : ℕ) → number + suc more ≡ request_count connection →
      (x : List (ℕ × ℕ)) → bytes_of x ≡ concat
      (map (request_of connection) (range_with_len number (suc more))) →
      list_any closing (units limits x) ≡ true
  from_one limits some connection h zero number counts x bytes =
      let few : number < 2 ^ 64 = omega (arith, counts) in
      one_closes limits some connection number true h few
      (same number (request_count connection) (omega (arith, counts))) x [] bytes (λ e. cc)
  from_one limits some connection h (suc more) number counts x bytes =
      let few : number < 2 ^ 64 = omega (arith, counts) in
      one_closes limits some connection number false h few
      (other number more (request_count connection) counts) x
      (concat (map (request_of connection) (range_with_len (number + 1) (suc more)))) bytes
      (λ e y is. from_one limits some connection h more (number + 1) (omega (arith, counts)) y is)

  pub input_closes : (limits : Limits) → 0 < limits.max_head → (connection : ℕ) →
      connection < 2 ^ 64 →
      (x : List (ℕ × ℕ)) → bytes_of x ≡ input_of connection →
      list_any closing (units limits x) ≡ true
  unfolding input_of
  input_closes limits some connection h x bytes =
      let count : 1 + connection % 4 ≡ suc (connection % 4) = omega arith in
      from_one limits some connection h (connection % 4) 0 (omega arith) x
      (bytes ∙ ap (λ n. concat (map (request_of connection) (range_with_len 0 n))) count)
