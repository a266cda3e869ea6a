use Rattle.std.proofs.Common.{rules, ◌≡◌, ◌∙◌, ◌++◌, ◌∷◌, ◌||◌, [], sym, ap, refl, Some, None}
use Rattle.outside.specs.Link.{LinkState, stamped}
use Rattle.outside.specs.declared.types.End.TheVariants as over
use Rattle.channel.specs.Acting.{has_counted}
use Rattle.channel.specs.State.{state_of}
use Rattle.channel.specs.declared.acts.LeftAct.TheVariants.{Put}
use Rattle.channel.proofs.LeftTurns.{left_breaks, left_kills, left_puts}
use Rattle.channel.proofs.Seen.{shown_breaks, shown_kills, shown_puts}
use Rattle.channel.proofs.near.Near.take_in.Goals as goal

pub returns-in-Ok-put-clause-turns : goal.returns-in-Ok-put-clause-turns
returns-in-Ok-put-clause-turns g c = λ link came.
    let fed : c.feed.new.self.fed ≡ c.args.self.now.stream.fed
    ++ stamped c.args.now c.args.piece.now = search rules in
    let told : c.note-puts.result.value ≡ Put c.in-Ok.units.items c.feed.new.self.held ∷ [] =
    search rules in
    record {
      side = left_puts _ _ _ _ _ _ c.requires.alive refl refl c.in-Ok.units.items c.requires.open
          c.in-Ok-put.ensures.put told c.feed.ensures.limits c.in-Ok.ensures.kept
          (λ f. c.in-Ok.ensures.units f) (λ f. c.in-Ok.ensures.over f)
          (λ was t. fed ∙ (ap (λ x. x ++ stamped c.args.now c.args.piece.now) (was t)
          ∙ sym (ap (λ (s : LinkState). s.arrivals) (came.told t))))
          (λ t. ap (λ (s : LinkState). s.sent) (came.told t)) (λ was t. was t
          ∙ sym (ap (λ (s : LinkState). s.ended) (came.told t)))
          (λ t. sym (ap (λ (s : LinkState). s.touched) (came.told t)));
      same = record { window = refl; peer = refl; key = came.key; plan = came.plan };
    }

pub returns-in-Ok-put-clause-hears : goal.returns-in-Ok-put-clause-hears
returns-in-Ok-put-clause-hears g c = λ link came l r left.
    let told : c.note-puts.result.value ≡ Put c.in-Ok.units.items c.feed.new.self.held ∷ [] =
    search rules in
    record {
      shown = shown_puts (state_of c.args.state.now) (state_of c.put.new.self) c.note-puts.result l
          r left c.args.self.now.stream c.feed.new.self c.args.self.now.ended
          c.args.self.now.touched c.args.now c.in-Ok.units.items c.feed.new.self.held
          c.in-Ok-put.ensures.put told;
      faults = came.faults;
      link = λ t. record { bytes = c.args.piece.now; some = c.requires.some; link = came.told t };
      idle = λ e. cc;
    }

pub returns-in-Err-clause-turns : goal.returns-in-Err-clause-turns
returns-in-Err-clause-turns g c = λ link came.
    let fed : c.feed.new.self.fed ≡ c.args.self.now.stream.fed
    ++ stamped c.args.now c.args.piece.now = search rules in
    let now : state_of c.kill.new.state ≡ record (state_of c.args.state.now) {
      dead =
          Some over.NoMemory;
    } = search rules in
    let more = c.units_grow.ensures c.args.self.now.stream.limits c.args.self.now.stream.fed
    (stamped c.args.now c.args.piece.now) c.requires.positive in
    record {
      side = left_kills _ _ _ _ _ _ c.requires.alive refl refl over.NoMemory
          (stamped c.args.now c.args.piece.now) more.0
          (λ e. cc) refl now c.kill.ensures.told c.feed.ensures.limits fed more.1 (λ e. cc)
          (λ t. ap (λ (s : LinkState). s.arrivals) (came.told t))
          (λ t. ap (λ (s : LinkState). s.sent) (came.told t)) (λ was t. was t
          ∙ sym (ap (λ (s : LinkState). s.ended) (came.told t)))
          (λ was t. sym (ap (λ (s : LinkState). s.touched) (came.told t))) (λ e. cc)
          (λ at n e. cc) (λ at n e. cc);
      same = record { window = refl; peer = refl; key = came.key; plan = came.plan };
    }

pub returns-in-Err-clause-hears : goal.returns-in-Err-clause-hears
returns-in-Err-clause-hears g c = λ link came l r left.
    let now : state_of c.kill.new.state ≡ record (state_of c.args.state.now) {
      dead =
          Some over.NoMemory;
    } = search rules in
    record {
      shown = shown_kills (state_of c.args.state.now) (state_of c.kill.new.state) c.kill.result l r
          left c.args.self.now.stream c.feed.new.self c.args.self.now.ended c.args.self.now.touched
          c.args.now over.NoMemory now c.kill.ensures.told;
      faults = came.faults;
      link = λ t. record { bytes = c.args.piece.now; some = c.requires.some; link = came.told t };
      idle = λ e. cc;
    }

pub returns-in-Err-Spill-clause-turns : goal.returns-in-Err-Spill-clause-turns
returns-in-Err-Spill-clause-turns g c = λ link came.
    let fed : c.feed.new.self.fed ≡ c.args.self.now.stream.fed
    ++ stamped c.args.now c.args.piece.now = search rules in
    let more = c.units_grow.ensures c.args.self.now.stream.limits c.args.self.now.stream.fed
    (stamped c.args.now c.args.piece.now) c.requires.positive in
    record {
      side = left_breaks _ _ _ _ _ _ c.requires.alive refl None c.args.state.now.output
          (stamped c.args.now c.args.piece.now) more.0 (λ b e. e) c.end_broken-broken.ensures.state
          c.end_broken-broken.ensures.told refl
          (ap (λ b. b || has_counted g.A.Run.AppRun.spill_faults c.end_broken-broken.result.1)
          c.end_broken-broken.ensures.counted)
          c.feed.ensures.limits fed more.1
          (λ t. ap (λ (s : LinkState). s.arrivals) (came.told t))
          (λ t. ap (λ (s : LinkState). s.sent) (came.told t)) (λ was t. was t
          ∙ sym (ap (λ (s : LinkState). s.ended) (came.told t)))
          (λ was t. sym (ap (λ (s : LinkState). s.touched) (came.told t)));
      same = record { window = refl; peer = refl; key = came.key; plan = came.plan };
    }

pub returns-in-Err-Spill-clause-hears : goal.returns-in-Err-Spill-clause-hears
returns-in-Err-Spill-clause-hears g c = λ link came l r left. record {
  shown = shown_breaks (state_of c.args.state.now)
      (state_of c.end_broken-broken.new.state) c.end_broken-broken.result.2 l r left
      c.args.self.now.stream c.feed.new.self c.args.self.now.ended c.args.self.now.touched
      c.args.now c.args.state.now.output c.end_broken-broken.ensures.state
      c.end_broken-broken.ensures.told;
  faults = came.faults;
  link = λ t. record { bytes = c.args.piece.now; some = c.requires.some; link = came.told t };
  idle = λ e. cc;
}

pub returns-in-Err-NoMemory-clause-turns : goal.returns-in-Err-NoMemory-clause-turns
returns-in-Err-NoMemory-clause-turns g c = λ link came.
    let fed : c.feed.new.self.fed ≡ c.args.self.now.stream.fed
    ++ stamped c.args.now c.args.piece.now = search rules in
    let more = c.units_grow.ensures c.args.self.now.stream.limits c.args.self.now.stream.fed
    (stamped c.args.now c.args.piece.now) c.requires.positive in
    record {
      side = left_kills _ _ _ _ _ _ c.requires.alive refl refl over.NoMemory
          (stamped c.args.now c.args.piece.now) more.0
          (λ e. cc) refl c.kill-in-Err-NoMemory.ensures.now c.kill-in-Err-NoMemory.ensures.told
          c.feed.ensures.limits fed more.1 (λ e. cc)
          (λ t. ap (λ (s : LinkState). s.arrivals) (came.told t))
          (λ t. ap (λ (s : LinkState). s.sent) (came.told t)) (λ was t. was t
          ∙ sym (ap (λ (s : LinkState). s.ended) (came.told t)))
          (λ was t. sym (ap (λ (s : LinkState). s.touched) (came.told t))) (λ e. cc)
          (λ at n e. cc) (λ at n e. cc);
      same = record { window = refl; peer = refl; key = came.key; plan = came.plan };
    }

pub returns-in-Err-NoMemory-clause-hears : goal.returns-in-Err-NoMemory-clause-hears
returns-in-Err-NoMemory-clause-hears g c = λ link came l r left. record {
  shown = shown_kills (state_of c.args.state.now) (state_of c.kill-in-Err-NoMemory.new.state)
      c.kill-in-Err-NoMemory.result l r left c.args.self.now.stream c.feed.new.self
      c.args.self.now.ended c.args.self.now.touched c.args.now over.NoMemory
      c.kill-in-Err-NoMemory.ensures.now c.kill-in-Err-NoMemory.ensures.told;
  faults = came.faults;
  link = λ t. record { bytes = c.args.piece.now; some = c.requires.some; link = came.told t };
  idle = λ e. cc;
}
