-- What is asked for, but for the bytes of bodies that aren't told.
use Rattle.std.proofs.Common.{◌≡◌, ℕ, Bool, List, [], ◌∷◌, ◌++◌, length, map, refl, ap, sym, subst}
use Rattle.std.proofs.Common.{◌∙◌, ◌+◌, length-append}
use Rattle.std.proofs.lemmas.List.{map-append}
use Rattle.head_grammar.specs.Heads.{Head}
use Rattle.request_stream.specs.Asks.{AreAskedAs, outline}
use Rattle.request_stream.specs.Units.{Asked, request}
use Rattle.spill_buffer.specs.Buffer.{IsToldAs}

module _ {tells : Bool} where
  -- bytes

  pub told_same : (bytes : List ℕ) → IsToldAs tells bytes bytes
  told_same bytes = record { size = refl; told = λ t. refl }

  pub told_trans : (a b c : List ℕ) → IsToldAs tells a b → IsToldAs tells b c → IsToldAs tells a c
  told_trans a b c h k = record { size = h.size ∙ k.size; told = λ t. h.told t ∙ k.told t }

  pub told_behind : (a b more : List ℕ) → IsToldAs tells a b →
      IsToldAs tells (a ++ more) (b ++ more)
  told_behind a b more h = record {
    size =
        length-append a more ∙ (ap (λ n. n + length more) h.size ∙ sym (length-append b more));
    told = λ t. ap (λ bytes. bytes ++ more) (h.told t);
  }

  -- units

  pub asked_same : (us : List Asked) → AreAskedAs tells us us
  asked_same us = record { alike = refl; told = λ t. refl }

  pub asked_is : (us vs : List Asked) → us ≡ vs → AreAskedAs tells us vs
  asked_is us vs e = subst (AreAskedAs tells us) e (asked_same us)

  pub asked_trans : (us vs ws : List Asked) → AreAskedAs tells us vs → AreAskedAs tells vs ws →
      AreAskedAs tells us ws
  asked_trans us vs ws h k = record {
    alike = h.alike ∙ k.alike;
    told = λ t. h.told t ∙ k.told t;
  }

  pub asked_behind : (us vs more : List Asked) → AreAskedAs tells us vs →
      AreAskedAs tells (us ++ more) (vs ++ more)
  asked_behind us vs more h = record {
    alike =
        map-append outline us more
        ∙ (ap (λ os. os ++ map outline more) h.alike ∙ sym (map-append outline vs more));
    told = λ t. ap (λ ws. ws ++ more) (h.told t);
  }

  -- a request whose body isn't told
  pub asked_request : (before : List Asked) (head : Head) (body content : List ℕ) (moment : ℕ) →
      IsToldAs tells body content →
      AreAskedAs tells (before ++ request head body moment ∷ [])
      (before ++ request head content moment ∷ [])
  asked_request before head body content moment h = record {
    alike =
        map-append outline before (request head body moment ∷ [])
        ∙ (ap (λ n. map outline before ++ ((request head [] moment, n) ∷ [])) h.size
        ∙ sym (map-append outline before (request head content moment ∷ [])));
    told = λ t. ap (λ bytes. before ++ request head bytes moment ∷ []) (h.told t);
  }

none_alike : (us : List Asked) → map outline us ≡ [] → us ≡ []
none_alike [] e = refl
none_alike (u ∷ us) e = cc

pub none_asked : {tells : Bool} (us vs : List Asked) → AreAskedAs tells us vs → vs ≡ [] → us ≡ []
none_asked us vs h e = none_alike us (h.alike ∙ ap (map outline) e)
