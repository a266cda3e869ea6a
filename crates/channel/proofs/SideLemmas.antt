-- What the polling side keeps behind each act.
use Rattle.std.proofs.Common.{◌≡◌, ◌<◌, ◌+◌, ℕ, Bool, true, false, IsTrue, List, [], ◌++◌, length}
use Rattle.std.proofs.Common.{take, map, Option, Some, None, refl, sym, ap, subst, ◌∙◌, append-nil}
use Rattle.std.specs.Prelude.{◌||◌, is_some}
use Rattle.std.specs.List.{list_any}
use Rattle.std.proofs.lemmas.List.{map-append, length-map}
use Rattle.std.proofs.lemmas.List.Folds.{list_any-append}
use Rattle.outside.specs.declared.types.End.{End}
use Rattle.outside.specs.declared.types.End.TheVariants as over
use Rattle.request_stream.specs.Asks.{AreAskedAs, IsAdded, asks}
use Rattle.request_stream.specs.Units.{Asked, closing, units}
use Rattle.request_stream.specs.declared.types.Limits.{Limits}
use Rattle.request_stream.specs.declared.types.Unit.{Unit as AUnit}
use Rattle.channel.proofs.ActLemmas.{same}
use Rattle.channel.proofs.Asked.{asked_both, asked_front}
use Rattle.channel.specs.Histories.{LeftPast, left_by}
use Rattle.channel.specs.Sides.{IsSameNear, KeepsSide, Linked, Side, is_killer, loses_units}
use Rattle.channel.specs.declared.near.Near.{Near}
use Rattle.channel.specs.declared.acts.LeftAct.TheVariants.{Put, Drained, Killed, Buried}

-- all of them are the first
asked_first : {S : Type 0} {tells : Bool} (limits : Limits) (x : List (ℕ × ℕ))
    (us : List (AUnit S)) → AreAskedAs tells (map asks us) (units limits x) →
    AreAskedAs tells (map asks us) (take (length us) (units limits x))
asked_first {S} {tells} limits x us h =
    subst (λ all. AreAskedAs tells (map asks us) (take (length us) all))
    (append-nil (units limits x))
    (asked_front (map asks us) (units limits x) [] (length us) h (sym (length-map us asks)))

-- nobody is killed in a side that is alive
pub no_kill : {X : Type 0} (o : Option X) (x : X) → o ≡ None → o ≡ Some x → ⊥
no_kill None x e f = cc
no_kill (Some y) x e f = cc

-- a call that leaves what the polling side is made of
pub same_near : {L P A R S : Type 0} (links : Linked L P) (old new : Near L A S R) →
    new.window ≡ old.window → new.peer ≡ old.peer → links.key new.link ≡ links.key old.link →
    links.plan new.link ≡ links.plan old.link → IsSameNear links old new
same_near links old new window peer key plan = record {
  window = window;
  peer = peer;
  key = key;
  plan = plan;
}

module _ {S : Type 0} (spill_tells : Bool) (limits : Limits) (timeout : ℕ) (old new : Side)
    (l : LeftPast S)
    (tells : new.tells ≡ old.tells) (alive : l.killed
    ≡ None) (was : KeepsSide spill_tells limits timeout old l) where
  told : IsTrue new.tells → IsTrue old.tells
  told t = subst (λ b. IsTrue b) tells t

  none_failed : old.story.failed ≡ false
  none_failed = by old.story.failed was.failed
    where
      by : (b : Bool) → (b ≡ true → IsTrue (is_some l.killed)) → b ≡ false
      by true h = let no : IsTrue (is_some {T = End} None) =
          subst (λ (k : Option End). IsTrue (is_some k)) alive (h refl) in cc
      by false h = refl

  unlost : loses_units l.killed ≡ false
  unlost = ap loses_units alive

  -- units are put
  pub side_puts : (us : List (AUnit S)) (held : ℕ) (buried : new.buried ≡ old.buried)
      (limits_are : new.story.limits ≡ old.story.limits) (failed : new.story.failed
      ≡ old.story.failed) (holds : new.story.held ≡ held) →
      (old.story.failed ≡ false → IsAdded spill_tells us (units old.story.limits old.story.fed)
      (units old.story.limits new.story.fed)) →
      (old.story.failed ≡ false → new.story.over ≡ (old.story.over
      || list_any closing (map asks us))) →
      (IsTrue old.tells → new.story.fed ≡ new.link.arrivals) →
      (IsTrue old.tells → new.link.sent ≡ old.link.sent) →
      (IsTrue old.tells → new.ended ≡ new.link.ended) →
      (IsTrue old.tells → new.touched ≡ new.link.touched) →
      KeepsSide spill_tells limits timeout new (left_by l (Put us held))
  side_puts us held buried limits_are failed holds grown closes fed sent ended touched =
      let added : IsAdded spill_tells us (units limits old.story.fed) (units limits new.story.fed) =
      subst (λ m. IsAdded spill_tells us (units m old.story.fed) (units m new.story.fed))
      was.limits_are (grown none_failed) in
      let both : AreAskedAs spill_tells (map asks l.put ++ map asks us) (units limits old.story.fed
      ++ added.more) =
      asked_both (map asks l.put) (units limits old.story.fed) (map asks us) added.more
      (was.asked unlost) added.asked in
      let all : AreAskedAs spill_tells (map asks (l.put ++ us)) (units limits new.story.fed) =
      subst (AreAskedAs spill_tells (map asks (l.put ++ us))) (sym added.whole)
      (subst (λ xs. AreAskedAs spill_tells xs (units limits old.story.fed ++ added.more))
      (sym (map-append asks l.put us)) both) in
      record {
        limits_are = limits_are ∙ was.limits_are;
        fed = λ t. fed (told t);
        sent = λ t. sent (told t) ∙ was.sent (told t);
        ended = λ t. ended (told t);
        touched = λ t. touched (told t);
        asked = λ k. all;
        front = asked_first limits new.story.fed (l.put ++ us) all;
        shut = λ k. closes none_failed ∙ (ap (λ b. b || list_any closing (map asks us)) (was.shut k)
            ∙ (sym (list_any-append closing (map asks l.put) (map asks us))
            ∙ ap (list_any closing) (sym (map-append asks l.put us))));
        held = λ k. holds;
        failed = λ e. was.failed (sym failed ∙ e);
        buried = buried ∙ was.buried;
        broke = λ e. absurd (no_kill _ _ alive e);
        killer = was.killer;
        link_fault = λ e. absurd (no_kill _ _ alive e);
        timed = λ at now e. absurd (no_kill _ _ alive e);
      }

  -- nothing is put, and the link may have taken bytes
  pub side_drains : (bytes : List ℕ) (buried : new.buried ≡ old.buried) (story : new.story
      ≡ old.story) →
      (IsTrue old.tells → new.link.arrivals ≡ old.link.arrivals) →
      (IsTrue old.tells → new.link.sent ≡ old.link.sent ++ bytes) →
      (IsTrue old.tells → new.ended ≡ new.link.ended) →
      (IsTrue old.tells → new.touched ≡ new.link.touched) →
      KeepsSide spill_tells limits timeout new (left_by l (Drained bytes))
  side_drains bytes buried story arrivals sent ended touched = record {
    limits_are = ap (λ s. s.limits) story ∙ was.limits_are;
    fed = λ t. ap (λ s. s.fed) story ∙ (was.fed (told t) ∙ sym (arrivals (told t)));
    sent = λ t. sent (told t) ∙ ap (λ xs. xs ++ bytes) (was.sent (told t));
    ended = λ t. ended (told t);
    touched = λ t. touched (told t);
    asked = λ k. subst (λ s. AreAskedAs spill_tells (map asks l.put) (units limits s.fed))
        (sym story) (was.asked k);
    front = subst (λ s. AreAskedAs spill_tells (map asks l.put)
        (take (length l.put) (units limits s.fed))) (sym story) was.front;
    shut = λ k. ap (λ s. s.over) story ∙ was.shut k;
    held = λ k. ap (λ s. s.held) story ∙ was.held k;
    failed = λ e. was.failed (sym (ap (λ s. s.failed) story) ∙ e);
    buried = buried ∙ was.buried;
    broke = λ e. absurd (no_kill _ _ alive e);
    killer = was.killer;
    link_fault = λ e. absurd (no_kill _ _ alive e);
    timed = λ at now e. absurd (no_kill _ _ alive e);
  }

  -- it is killed, whatever the last piece brought, and what broke may be taken out at once
  pub side_ends : (new_left : LeftPast S) (end : End) → new_left.put ≡ l.put → new_left.drained
      ≡ l.drained → new_left.killed ≡ Some end → new.buried ≡ new_left.buried →
      (end ≡ over.SpillFault → new_left.buried ≡ true) →
      IsTrue (is_killer end) → (limits_are : new.story.limits ≡ old.story.limits)
      (piece : List (ℕ × ℕ)) (more : List Asked) → units limits (old.story.fed ++ piece)
      ≡ units limits old.story.fed ++ more → new.story.fed ≡ old.story.fed ++ piece →
      (loses_units (Some end) ≡ false → more ≡ []) →
      (IsTrue old.tells → new.link.arrivals ≡ old.link.arrivals ++ piece) →
      (IsTrue old.tells → new.link.sent ≡ old.link.sent) →
      (IsTrue old.tells → new.ended ≡ new.link.ended) →
      (IsTrue old.tells → new.touched ≡ new.link.touched) →
      (end ≡ over.LinkFault → 0 < new.faults) →
      ((at now : ℕ) → end ≡ over.TimedOut at now → (at ≡ new.touched) × (at + timeout < now)) →
      KeepsSide spill_tells limits timeout new new_left
  side_ends new_left end put drained killed buried broke kills limits_are piece more begins fed none
      came sent ended touched link timed =
      let grown : units limits new.story.fed ≡ units limits old.story.fed ++ more =
      ap (units limits) fed ∙ begins in
      let still : AreAskedAs spill_tells (map asks new_left.put) (units limits old.story.fed) =
      subst (λ us. AreAskedAs spill_tells (map asks us) (units limits old.story.fed)) (sym put)
      (was.asked unlost) in
      record {
        limits_are = limits_are ∙ was.limits_are;
        fed = λ t. fed ∙ (ap (λ xs. xs ++ piece) (was.fed (told t)) ∙ sym (came (told t)));
        sent = λ t. sent (told t) ∙ (was.sent (told t) ∙ sym drained);
        ended = λ t. ended (told t);
        touched = λ t. touched (told t);
        asked = λ k. subst (AreAskedAs spill_tells (map asks new_left.put))
            (sym (grown ∙ (ap (λ us. units limits old.story.fed ++ us)
            (none (sym (ap loses_units killed) ∙ k)) ∙ append-nil (units limits old.story.fed))))
            still;
        front = subst (λ us. AreAskedAs spill_tells (map asks new_left.put)
            (take (length new_left.put) us)) (sym grown)
            (asked_front (map asks new_left.put) (units limits old.story.fed) more
            (length new_left.put) still (sym (length-map new_left.put asks)));
        shut = λ k. absurd (no_kill _ _ k killed);
        held = λ k. absurd (no_kill _ _ k killed);
        failed = λ e. ap is_some killed;
        buried = buried;
        broke = λ e. broke (same _ _ (sym killed ∙ e));
        killer = λ x e. subst (λ (z : End). IsTrue (is_killer z)) (same _ _ (sym killed ∙ e)) kills;
        link_fault = λ e. link (same _ _ (sym killed ∙ e));
        timed = λ at now e. timed at now (same _ _ (sym killed ∙ e));
      }

  -- a spill failed, and is taken out
  pub side_breaks : (new.buried ≡ true) → (limits_are : new.story.limits ≡ old.story.limits)
      (piece : List (ℕ × ℕ)) (more : List Asked) → units limits (old.story.fed ++ piece)
      ≡ units limits old.story.fed ++ more → new.story.fed ≡ old.story.fed ++ piece →
      (IsTrue old.tells → new.link.arrivals ≡ old.link.arrivals ++ piece) →
      (IsTrue old.tells → new.link.sent ≡ old.link.sent) →
      (IsTrue old.tells → new.ended ≡ new.link.ended) →
      (IsTrue old.tells → new.touched ≡ new.link.touched) →
      KeepsSide spill_tells limits timeout new (left_by (left_by l (Killed over.SpillFault)) Buried)
  side_breaks buried limits_are piece more begins fed came sent ended touched =
      side_ends (left_by (left_by l (Killed over.SpillFault)) Buried) over.SpillFault refl refl refl
      buried (λ e. refl) refl limits_are piece more begins fed (λ e. cc) came sent ended touched
      (λ e. cc) (λ at now e. cc)
