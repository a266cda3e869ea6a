-- What a piece adds to all bytes that a stream was fed.
use Rattle.std.proofs.Common.{Bool, true, false, ◌≡◌, ◌<◌, ◌∷◌, ℕ, [], List, ◌++◌, refl, sym}
use Rattle.std.proofs.Common.{subst, ◌∙◌}
use Rattle.std.specs.Prelude.{◌||◌, Result, Ok, Err, IfOk, OnOk, OnErr, map}
use Rattle.std.specs.List.{list_any}
use Rattle.request_stream.specs.Asks.{asks, IsAdded}
use Rattle.request_stream.specs.Reading.{Shuts, HasRead, Reads, StandsFor, is_over, is_failed}
use Rattle.request_stream.specs.Reading.{later}
use Rattle.request_stream.specs.Story.{Story, story_of}
use Rattle.request_stream.specs.Units.{Asked, units, closing}
use Rattle.request_stream.specs.Grammar.{Grammar}
use Rattle.request_stream.specs.declared.state.State.{State}
use Rattle.request_stream.specs.declared.state.State.TheVariants.{Seeking, Filling, Decoding, Over}
use Rattle.request_stream.specs.declared.state.State.TheVariants.{Failed}
use Rattle.request_stream.specs.declared.types.Limits.{Limits}
use Rattle.request_stream.specs.declared.types.Unit.{Unit as AUnit}
use Rattle.request_stream.proofs.AskedLemmas.{none_asked}
use Rattle.request_stream.proofs.LaterLemmas.{later-is}

-- behind a unit that closes nothing is given
over_stands : {S : Type 0} (tells : Bool) (limits : Limits) (state : State S) (z y : List (ℕ × ℕ)) →
    is_over state ≡ true → StandsFor tells limits state z → later limits z y ≡ []
over_stands tells limits (Seeking bytes) z y e s = cc
over_stands tells limits (Filling part) z y e s = cc
over_stands tells limits (Decoding part) z y e s = cc
over_stands tells limits Over z y e s = s y
over_stands tells limits Failed z y e s = cc

no_unit : {S : Type 0} (us : List (AUnit S)) → map asks us ≡ [] → us ≡ []
no_unit [] e = refl
no_unit (u ∷ us) e = cc

module _ (known : Grammar) where
  -- behind the units of the bytes before stand those that were given
  adds : {S : Type 0} (tells : Bool) (limits : Limits) (old new : State S) (fed p : List (ℕ × ℕ))
      (us : List (AUnit S)) → 0 < limits.max_head →
      Reads tells limits old new p [] (map asks us) → HasRead tells limits old fed →
      IsAdded tells us (units limits fed) (units limits (fed ++ p))
  adds tells limits old new fed p us h r s = record {
    more = later limits fed p;
    whole = later-is known limits fed p h;
    asked = (r.each known fed s).given;
  }

  nothing_more : {S : Type 0} (tells : Bool) (limits : Limits) (old new : State S)
      (fed p : List (ℕ × ℕ)) (us : List (AUnit S)) →
      Reads tells limits old new p [] (map asks us) → HasRead tells limits old fed →
      list_any closing (units limits fed) ≡ true → us ≡ []
  nothing_more tells limits old new fed p us r s e =
      let over : is_over old ≡ true = sym s.closed ∙ e in
      no_unit us (none_asked (map asks us) (later limits fed p) (r.each known fed s).given
      (s.alike.alike p ∙ over_stands tells limits old s.rest p over s.stands))

  pub adds_of : {S E : Type 0} {T : Type 0} (items : T → List (AUnit S)) (r : Result T E)
      (story : Story) (tells : Bool) (limits : Limits) (old new : State S)
      (fed came p : List (ℕ × ℕ)) →
      story_of limits old fed ≡ story → 0 < limits.max_head → came ≡ fed ++ p →
      (is_failed old ≡ false → HasRead tells limits old fed) →
      IfOk r (λ us. is_failed old ≡ false → Reads tells limits old new p [] (map asks (items us))) →
      IfOk r (λ us. story.failed ≡ false → IsAdded tells (items us) (units story.limits story.fed)
      (units story.limits came))
  adds_of items (Err f) story tells limits old new fed came p e h a k r = tt
  adds_of items (Ok us) story tells limits old new fed came p e h a k r =
      subst (λ s. s.failed ≡ false → IsAdded tells (items us) (units s.limits s.fed)
      (units s.limits came)) e
      (λ f. subst (λ c. IsAdded tells (items us) (units limits fed) (units limits c)) (sym a)
      (adds tells limits old new fed p (items us) h (r f) (k f)))

  last_by : {S : Type 0} (t : Bool) (tells : Bool) (limits : Limits) (old new : State S)
      (fed p : List (ℕ × ℕ)) (us : List (AUnit S)) → is_failed old ≡ t →
      (is_failed old ≡ false → HasRead tells limits old fed) →
      (is_failed old ≡ false → Reads tells limits old new p [] (map asks us)) →
      (is_failed old ≡ true → us ≡ []) → (t || list_any closing (units limits fed)) ≡ true →
      us ≡ []
  last_by true tells limits old new fed p us f k r n e = n f
  last_by false tells limits old new fed p us f k r n e =
      nothing_more tells limits old new fed p us (r f) (k f) e

  pub last_of : {S E : Type 0} {T : Type 0} (items : T → List (AUnit S)) (r : Result T E)
      (story : Story) (tells : Bool) (limits : Limits) (old new : State S) (fed p : List (ℕ × ℕ)) →
      story_of limits old fed ≡ story → (is_failed old ≡ false → HasRead tells limits old fed) →
      IfOk r (λ us. is_failed old ≡ false → Reads tells limits old new p [] (map asks (items us))) →
      IfOk r (λ us. is_failed old ≡ true → items us ≡ []) →
      IfOk r (λ us. (story.failed || list_any closing (units story.limits story.fed)) ≡ true →
      items us ≡ [])
  last_of items (Err f) story tells limits old new fed p e k r n = tt
  last_of items (Ok us) story tells limits old new fed p e k r n =
      subst (λ s. (s.failed || list_any closing (units s.limits s.fed)) ≡ true →
      items us ≡ []) e (last_by (is_failed old) tells limits old new fed p
      (items us) refl k r n)

  -- behind the piece it has read all bytes, unless a fault was met
  pub read_of : {S E : Type 0} {T : Type 0} (items : T → List Asked) (r : Result T E) (tells : Bool)
      (limits : Limits) (old new : State S) (fed came p : List (ℕ × ℕ)) → came ≡ fed ++ p →
      (is_failed old ≡ false → HasRead tells limits old fed) →
      IfOk r (λ us. is_failed old ≡ false → Reads tells limits old new p [] (items us)) →
      OnOk r (is_failed new ≡ is_failed old) → OnErr r (is_failed new ≡ true) →
      is_failed new ≡ false → HasRead tells limits new came
  read_of items (Err f) tells limits old new fed came p a k r kept fault e = let wrong : true
      ≡ false = sym fault ∙ e in cc
  read_of items (Ok us) tells limits old new fed came p a k r kept fault e =
      let going : is_failed old ≡ false = sym kept ∙ e in
      subst (HasRead tells limits new) (sym a) ((r going).each known fed (k going)).read

dead_by : {S : Type 0} (t : Bool) (old new : State S) (us : List (AUnit S)) → is_failed old ≡ t →
    (is_failed old ≡ false → Shuts old new [] (map asks us)) → (is_failed old ≡ true → us ≡ []) →
    (t || is_over old) ≡ true → us ≡ []
dead_by true old new us f k n e = n f
dead_by false old new us f k n e = no_unit us ((k f).over e).1

-- nothing is given behind a fault or a unit that closes
pub dead_of : {S E : Type 0} {T : Type 0} (items : T → List (AUnit S)) (r : Result T E)
    (story : Story) (limits : Limits) (old new : State S) (fed : List (ℕ × ℕ)) →
    story_of limits old fed ≡ story →
    IfOk r (λ us. is_failed old ≡ false → Shuts old new [] (map asks (items us))) →
    IfOk r (λ us. is_failed old ≡ true → items us ≡ []) →
    IfOk r (λ us. (story.failed || story.over) ≡ true → items us ≡ [])
dead_of items (Err f) story limits old new fed e k n = tt
dead_of items (Ok us) story limits old new fed e k n =
    subst (λ s. (s.failed || s.over) ≡ true → items us
    ≡ []) e (dead_by (is_failed old) old new (items us) refl k n)

over_by : {S : Type 0} (b : Bool) (old new : State S) (us : List (AUnit S)) → is_over old ≡ b →
    Shuts old new [] (map asks us) → is_over new ≡ (b || list_any closing (map asks us))
over_by true old new us e h = (h.over e).0
over_by false old new us e h = sym (h.going e)

pub over_of : {S E : Type 0} {T : Type 0} (items : T → List (AUnit S)) (r : Result T E)
    (story : Story) (limits : Limits) (old new : State S) (fed : List (ℕ × ℕ)) →
    story_of limits old fed ≡ story →
    IfOk r (λ us. is_failed old ≡ false → Shuts old new [] (map asks (items us))) →
    IfOk r (λ us. story.failed ≡ false → is_over new
    ≡ (story.over || list_any closing (map asks (items us))))
over_of items (Err f) story limits old new fed e k = tt
over_of items (Ok us) story limits old new fed e k =
    subst (λ s. s.failed ≡ false → is_over new ≡ (s.over || list_any closing (map asks (items us))))
    e (λ f. over_by (is_over old) old new (items us) refl (k f))
