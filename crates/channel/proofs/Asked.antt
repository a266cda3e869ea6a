-- Units that ask for the same, but for the bytes of bodies that aren't told.
use Rattle.std.proofs.Common.{◌≡◌, ℕ, Bool, List, [], ◌++◌, length, take, map, refl, ap, sym, subst}
use Rattle.std.proofs.Common.{◌∙◌}
use Rattle.std.proofs.Math.Seq.{take-append_seam}
use Rattle.std.proofs.lemmas.List.{map-append, length-map}
use Rattle.request_stream.specs.Asks.{AreAskedAs, outline}
use Rattle.request_stream.specs.Units.{Asked}

module _ {tells : Bool} where
  pub asked_none : AreAskedAs tells [] []
  asked_none = record { alike = refl; told = λ t. refl }

  pub asked_both : (us vs more others : List Asked) → AreAskedAs tells us vs →
      AreAskedAs tells more others → AreAskedAs tells (us ++ more) (vs ++ others)
  asked_both us vs more others h k = record {
    alike =
        map-append outline us more
        ∙ (ap (λ os. os ++ map outline more) h.alike
        ∙ (ap (λ os. map outline vs ++ os) k.alike ∙ sym (map-append outline vs others)));
    told = λ t. ap (λ ws. ws ++ more) (h.told t) ∙ ap (λ ws. vs ++ ws) (k.told t);
  }

  pub asked_length : (us vs : List Asked) → AreAskedAs tells us vs → length us ≡ length vs
  asked_length us vs h = sym (length-map us outline) ∙ (ap length h.alike ∙ length-map vs outline)

  -- they are as many as the first of a longer list
  pub asked_front : (us vs more : List Asked) (n : ℕ) → AreAskedAs tells us vs → n ≡ length us →
      AreAskedAs tells us (take n (vs ++ more))
  asked_front us vs more n h e =
      subst (AreAskedAs tells us)
      (sym (ap (λ k. take k (vs ++ more)) (e ∙ asked_length us vs h) ∙ take-append_seam vs more)) h
