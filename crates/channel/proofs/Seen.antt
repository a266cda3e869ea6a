-- What is shown behind each act of the polling side.
use Rattle.std.proofs.Common.{◌≡◌, ℕ, Bool, true, false, List, [], ◌∷◌, ◌++◌}
use Rattle.std.proofs.Common.{Option, Some, None, refl, sym, ap, subst, ◌∙◌, arith}
use Rattle.std.proofs.Common.{length-append}
use Rattle.std.specs.Prelude.{◌||◌, is_some}
use Rattle.std.proofs.lemmas.List.Sums.{fold-append}
use Rattle.outside.specs.declared.types.End.{End}
use Rattle.outside.specs.declared.types.End.TheVariants as over
use Rattle.request_stream.specs.Story.{Story}
use Rattle.request_stream.specs.declared.types.Unit.{Unit as AUnit}
use Rattle.spill_buffer.specs.Buffer.{Buffered}
use Rattle.channel.specs.Acting.{length_of}
use Rattle.channel.specs.Happening.{Concludes, dies_at, Gets, IfAsked}
use Rattle.channel.specs.Histories.{LeftEntry, LeftPast, RightEntry, RightPast, left_acts, left_by}
use Rattle.channel.specs.Histories.{left_past, left_start, left_turn, right_past}
use Rattle.channel.specs.Showing.{shown_of}
use Rattle.channel.specs.Sides.{IsSameNear, Linked, Sees, view_of}
use Rattle.channel.specs.declared.near.Near.{Near}
use Rattle.channel.specs.State.{State}
use Rattle.channel.specs.Views.{Shown, View}
use Rattle.channel.specs.declared.acts.LeftAct.{LeftAct}
use Rattle.channel.specs.declared.acts.LeftAct.TheVariants.{Put, Killed, Buried}
use Rattle.channel.specs.declared.near.Moved.{Moved}
use Rattle.channel.specs.declared.types.Window.{Window}

module _ {A R S : Type 0} (old new : State A R S) (entry : LeftEntry S) (l : LeftPast S)
    (r : RightPast S) (left : ℕ) where
  -- units were put
  pub shown_puts : (story new_story : Story) (ended : Bool) (touched now : ℕ) (us : List (AUnit S))
      (held : ℕ) → new ≡ record old { ready = old.ready ++ us } → entry.value ≡ Put us held ∷ [] →
      Gets now (shown_of story ended touched old l r left)
      (shown_of new_story ended now new (left_turn l entry) r left)
  shown_puts story new_story ended touched now us held e is =
      subst (λ (acts : List (LeftAct S)). Gets now (shown_of story ended touched old l r left)
      (shown_of new_story ended now new (left_acts l acts) r left)) (sym is)
      (subst (λ (s : State A R S). Gets now (shown_of story ended touched old l r left)
      (shown_of new_story ended now s (left_by l (Put us held)) r left)) (sym e)
      (let ready = length-append old.ready us in let put = length-append l.put us in record {
        grown = omega (arith, ready);
        counted = omega (arith, ready, put);
        shown = refl;
      }))

  -- it was killed
  pub shown_kills : (story new_story : Story) (ended : Bool) (touched now : ℕ) (end : End) →
      new ≡ record old { dead = Some end } → entry.value ≡ Killed end ∷ [] →
      shown_of new_story ended now new (left_turn l entry) r left
      ≡ record (shown_of story ended touched old l r left) {
        finished = new_story.failed
            || new_story.over;
        touched = now;
        dead = Some end;
      }
  shown_kills story new_story ended touched now end e is =
      subst (λ (acts : List (LeftAct S)). shown_of new_story ended now new (left_acts l acts) r left
      ≡ record (shown_of story ended touched old l r left) {
        finished = new_story.failed
            || new_story.over;
        touched = now;
        dead = Some end;
      }) (sym is)
      (ap (λ (s : State A R S). shown_of new_story ended now s (left_by l (Killed end)) r left) e)

  -- a spill failed, and was taken out
  pub shown_breaks : (story new_story : Story) (ended : Bool) (touched now : ℕ)
      (output : Option (Buffered S)) → new ≡ record old {
        dead = Some over.SpillFault;
        fallen =
            None;
        output = output;
      } → entry.value ≡ Killed over.SpillFault ∷ Buried ∷ [] →
      shown_of new_story ended now new (left_turn l entry) r left
      ≡ record (shown_of story ended touched old l r left) {
        finished = new_story.failed
            || new_story.over;
        touched = now;
        output = length_of output;
        dead = Some over.SpillFault;
      }
  shown_breaks story new_story ended touched now output e is =
      subst (λ (acts : List (LeftAct S)). shown_of new_story ended now new (left_acts l acts) r left
      ≡ record (shown_of story ended touched old l r left) {
        finished = new_story.failed
            || new_story.over;
        touched = now;
        output = length_of output;
        dead =
            Some over.SpillFault;
      }) (sym is)
      (ap (λ (s : State A R S). shown_of new_story ended now s
      (left_by (left_by l (Killed over.SpillFault)) Buried) r left) e)

-- it was asked, as the channel was to be asked
pub asked_so : (ask : Bool) (m : Moved) (dead : Option End) → IfAsked true m None → dead ≡ None →
    ask ≡ true → IfAsked ask m dead
asked_so ask m dead p d a = subst (λ (o : Option End). IfAsked ask m o) (sym d)
    (subst (λ b. IfAsked b m None) (sym a) p)

-- one turn is what two parts of it are
pub turn_then : {S : Type 0} (l : LeftPast S) (e f both : LeftEntry S) →
    both.value ≡ e.value ++ f.value → left_turn l both ≡ left_turn (left_turn l e) f
turn_then l e f both is = ap (left_acts l) is ∙ fold-append left_by l e.value f.value

pub none_of : {X : Type 0} (o : Option X) → is_some o ≡ false → o ≡ None
none_of None e = refl
none_of (Some x) e = cc

pub same_then : {L P A R S : Type 0} (links : Linked L P) (a b c : Near L A S R) →
    IsSameNear links a b → IsSameNear links b c → IsSameNear links a c
same_then links a b c first second = record {
  window = second.window ∙ first.window;
  peer = second.peer ∙ first.peer;
  key = second.key ∙ first.key;
  plan = second.plan ∙ first.plan;
}

-- behind two parts of a turn
pub concludes_then : {L P A R S : Type 0} (links : Linked L P) (a b : Near L A S R)
    (s t : State A R S) (l : LeftPast S) (r : RightPast S) (left : ℕ) (e f both : LeftEntry S) →
    both.value ≡ e.value ++ f.value →
    Concludes (view_of links a s (left_turn l e) r left)
    (view_of links b t (left_turn (left_turn l e) f) r left) →
    Concludes (view_of links a s (left_turn l e) r left)
    (view_of links b t (left_turn l both) r left)
concludes_then links a b s t l r left e f both is c =
    subst (λ (x : LeftPast _). Concludes (view_of links a s (left_turn l e) r left)
    (view_of links b t x r left)) (sym (turn_then l e f both is)) c

-- a channel that timed out
pub view_dies : {L P A R S : Type 0} (links : Linked L P) (near : Near L A S R) (s t : State A R S)
    (l : LeftPast S) (r : RightPast S) (left : ℕ) (e f both : LeftEntry S) (now : ℕ) →
    both.value ≡ e.value ++ f.value →
    t ≡ record s { dead = Some (over.TimedOut near.touched now) } →
    f.value ≡ Killed (over.TimedOut near.touched now) ∷ [] →
    view_of links near t (left_turn l both) r left
    ≡ dies_at now (view_of links near s (left_turn l e) r left)
view_dies links near s t l r left e f both now is dies told =
    ap (λ (x : LeftPast _). view_of links near t x r left) (turn_then l e f both is)
    ∙ ap (λ (x : Shown). record (view_of links near s (left_turn l e) r left) { shown = x })
    (shown_kills s t f (left_turn l e) r left near.stream near.stream near.ended near.touched
    near.touched (over.TimedOut near.touched now) dies told)

pub left_past_more : {S : Type 0} (entries : List (LeftEntry S)) (entry : LeftEntry S) →
    left_past (entries ++ entry ∷ []) ≡ left_turn (left_past entries) entry
left_past_more entries entry = fold-append left_turn left_start entries (entry ∷ [])

-- what is seen of a turn of the polling side, with the acts of both sides
pub called : {L P A R S : Type 0} (holds : Window → View → View → Type 0) (links : Linked L P)
    (a b : Near L A S R) (s t : State A R S) (entry : LeftEntry S)
    (left new_left : List (LeftEntry S)) (right new_right : List (RightEntry S)) (steps : ℕ)
    (w v : Window) →
    Sees links a b s t entry (holds w) → new_left ≡ left ++ entry ∷ [] → new_right ≡ right → v ≡ w →
    holds v (view_of links a s (left_past left) (right_past right) steps)
    (view_of links b t (left_past new_left) (right_past new_right) steps)
called holds links a b s t entry left new_left right new_right steps w v sees lefts rights
    same_window =
    subst (λ (x : Window). holds x (view_of links a s (left_past left) (right_past right) steps)
    (view_of links b t (left_past new_left) (right_past new_right) steps)) (sym same_window)
    (subst (λ (x : LeftPast _). holds w (view_of links a s (left_past left)
    (right_past right) steps) (view_of links b t x (right_past new_right) steps))
    (sym (ap left_past lefts ∙ left_past_more left entry))
    (subst (λ (x : List (RightEntry _)). holds w (view_of links a s (left_past left)
    (right_past right) steps) (view_of links b t (left_turn (left_past left) entry)
    (right_past x) steps)) (sym rights)
    (sees (left_past left) (right_past right) steps)))
