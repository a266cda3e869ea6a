-- More bytes only add units.
use Rattle.std.proofs.Common.{◌≡◌, ◌≤◌, ◌<◌, ◌+◌, ◌-◌, ℕ, zero, suc, Bool, true, false, List, []}
use Rattle.std.proofs.Common.{◌∷◌, ◌++◌, length, take, drop, None, Some, refl, ap, sym, subst, ◌∙◌}
use Rattle.std.proofs.Common.{cond, arith, append_assoc}
use Rattle.std.specs.Prelude.{Option, nat_le}
use Rattle.std.proofs.lemmas.List.{drop-append-le, length-drop, append-nil, nil_from_length}
use Rattle.request_stream.specs.Grammar.{Grammar}
use Rattle.request_stream.specs.declared.types.Limits.{Limits}
use Rattle.head_grammar.specs.Heads.{Head}
use Rattle.head_grammar.specs.declared.types.Parsed.{Parsed}
use Rattle.head_grammar.specs.declared.types.Parsed.TheVariants.{Blank, Good, Bad}
use Rattle.head_grammar.specs.Ends.{head_end}
use Rattle.chunk_body.specs.Bodies.{Body, whole, wrong, partial}
use Rattle.request_stream.specs.Units.{verdict_by, Asked, request, bytes_of, when, body_of, Front}
use Rattle.request_stream.specs.Units.{waits, ends, goes, welcome, front_by_body, front_by_head}
use Rattle.request_stream.specs.Units.{front_by_end, front, follow, units}
use Rattle.request_stream.proofs.UnitLemmas.{IsFixed, Takes, said, window, head_within, front-takes}
use Rattle.request_stream.proofs.UnitLemmas.{units-nil, units-step, front_of-append, window-still}
use Rattle.request_stream.proofs.UnitLemmas.{front-settled}

-- one list is a front of the other
pub record Begins (us vs : List Asked) : Type 0 where
  pub more : List Asked
  pub whole : vs ≡ us ++ more

begins_body : (x : List (ℕ × ℕ)) (n : ℕ) (h : Head) (v : Body) →
    Begins (welcome h) (said (front_by_body x n h v))
begins_body x n h (whole k d) = elim h.closes as (λ t. Begins (welcome h)
    (said (cond t (ends (welcome h ++ request h d (when x (n + k - 1)) ∷ []))
    (goes (welcome h ++ request h d (when x (n + k - 1)) ∷ []) (n + k))))) [
      | true ↦ record {
        more =
            _;
        whole = refl;
      }
      | false ↦ record { more = _; whole = refl }
    ]
begins_body x n h (wrong j r) = record { more = _; whole = refl }
begins_body x n h (partial d) = record { more = []; whole = sym (append-nil (welcome h)) }

-- what waits with some units still begins with them
waiting_body : (x y : List (ℕ × ℕ)) (n : ℕ) (h : Head) (v : Body) (us : List Asked) →
    front_by_body x n h v ≡ waits us → welcome h ≡ us
waiting_body x y n h (whole k d) us e = elim h.closes as
    (λ t. cond t (ends (welcome h ++ request h d (when x (n + k - 1)) ∷ []))
    (goes (welcome h ++ request h d (when x (n + k - 1)) ∷ []) (n + k)) ≡ waits us →
    welcome h ≡ us) [ true ↦ λ f. cc | false ↦ λ f. cc ] e
waiting_body x y n h (wrong j r) us e = cc
waiting_body x y n h (partial d) us e = cc

waiting_head : (limits : Limits) (x y : List (ℕ × ℕ)) (n : ℕ) (p : Parsed) (us : List Asked) →
    front_by_head limits x n p ≡ waits us → Begins us (said (front_by_head limits (x ++ y) n p))
waiting_head limits x y n Blank us e = cc
waiting_head limits x y n (Bad r v b) us e = cc
waiting_head limits x y n (Good h) us e = subst (λ vs. Begins vs
    (said (front_by_head limits (x ++ y) n (Good h))))
    (waiting_body x y n h (body_of limits h.framing (drop n (bytes_of x))) us e)
    (begins_body (x ++ y) n h (body_of limits h.framing (drop n (bytes_of (x ++ y)))))

waiting_full : (t : Bool) (us vs : List Asked) → cond t (ends vs) (waits []) ≡ waits us → us ≡ []
waiting_full true us vs e = cc
waiting_full false us vs e = cc

begins_follow : (f : List (ℕ × ℕ) → List Asked) (x : List (ℕ × ℕ)) (v : Front) (us : List Asked) →
    Begins us (said v) → Begins us (follow f x v)
begins_follow f x (waits vs) us h = h
begins_follow f x (ends vs) us h = h
begins_follow f x (goes vs n) us h = record {
  more = h.more ++ f (drop n x);
  whole =
      ap (λ ws. ws ++ f (drop n x)) h.whole ∙ append_assoc us h.more (f (drop n x));
}

module _ (known : Grammar) where
  waiting_end : (limits : Limits) (x y : List (ℕ × ℕ)) (r : Option ℕ) (us : List Asked) →
      head_end (window limits x) ≡ r → front_by_end limits x r ≡ waits us →
      Begins us (said (front_by_end limits (x ++ y) (head_end (window limits (x ++ y)))))
  waiting_end limits x y None us e f =
      subst (λ vs. Begins vs (said (front_by_end limits (x ++ y)
      (head_end (window limits (x ++ y)))))) (sym
      (waiting_full (nat_le limits.max_head (length x)) us _ f)) (record {
        more = _;
        whole =
            refl;
      })
  waiting_end limits x y (Some n) us e f =
      let high = head_within known limits x n e in
      subst (λ r. Begins us (said (front_by_end limits (x ++ y) r)))
      (sym (window-still known limits x y n e))
      (subst (λ b. Begins us (said (front_by_head limits (x ++ y) n (verdict_by limits b))))
      (sym (front_of-append x y n high)) (waiting_head limits x y n
      (verdict_by limits (take n (bytes_of x))) us f))

  pub front-waiting : (limits : Limits) (x y : List (ℕ × ℕ)) (us : List Asked) →
      front limits x ≡ waits us → Begins us (said (front limits (x ++ y)))
  unfolding front
  front-waiting limits x y us e = waiting_end limits x y (head_end (window limits x)) us refl e

  begins_by : (m : ℕ) (limits : Limits) (x y : List (ℕ × ℕ)) (v : Front) → 0 < limits.max_head →
      front limits x ≡ v →
      ((z : List (ℕ × ℕ)) → length z < length x → Begins (units limits z) (units limits (z ++ y))) →
      Begins (follow (units limits) x v) (follow (units limits) (x ++ y) (front limits (x ++ y)))
  begins_by m limits x y (waits us) h e ih = begins_follow (units limits) (x ++ y)
      (front limits (x ++ y)) us (front-waiting limits x y us e)
  begins_by m limits x y (ends us) h e ih =
      let same : front limits (x ++ y) ≡ ends us =
      front-settled known limits x y h (subst IsFixed (sym e) tt) ∙ e in
      record { more = []; whole = ap (follow (units limits) (x ++ y)) same ∙ sym (append-nil us) }
  begins_by m limits x y (goes us n) h e ih =
      let same : front limits (x ++ y) ≡ goes us n =
      front-settled known limits x y h (subst IsFixed (sym e) tt) ∙ e in
      let there : (0 < n) × (n ≤ length x) = subst (Takes (length x)) e
      (front-takes known limits x) in
      let low = there.0 in let high = there.1 in
      let l = length-drop n x in
      let b = ih (drop n x) (omega arith) in
      record {
        more = b.more;
        whole = ap (follow (units limits) (x ++ y)) same
            ∙ (ap (λ z. us ++ units limits z) (drop-append-le n x y high)
            ∙ (ap (λ ws. us ++ ws) b.whole ∙ sym (append_assoc us
            (units limits (drop n x)) b.more)));
      }

  begins_within : (m : ℕ) (limits : Limits) (x y : List (ℕ × ℕ)) → 0 < limits.max_head →
      length x ≤ m → Begins (units limits x) (units limits (x ++ y))
  begins_within zero limits x y h a =
      subst (λ us. Begins us (units limits (x ++ y)))
      (sym (ap (units limits) (nil_from_length x (omega arith)) ∙ units-nil known limits h))
      (record { more = _; whole = refl })
  begins_within (suc m) limits x y h a =
      subst (λ us. Begins us (units limits (x ++ y))) (sym (units-step known limits x h))
      (subst (Begins (follow (units limits) x (front limits x)))
      (sym (units-step known limits (x ++ y) h))
      (begins_by m limits x y (front limits x) h refl
      (λ z l. begins_within m limits z y h (omega arith))))

  -- the law: more bytes only add units
  pub units-begin : (limits : Limits) (x y : List (ℕ × ℕ)) → 0 < limits.max_head →
      Begins (units limits x) (units limits (x ++ y))
  units-begin limits x y h = begins_within (length x) limits x y h (omega arith)
