use Rattle.std.proofs.Common.{rules, ◌≡◌, ◌∙◌, sym, ap, refl, IsTrue}
use Rattle.outside.specs.Link.{LinkState, opened}
use Rattle.channel.specs.Agreement.{known_by}
use Rattle.channel.specs.Sides.{linked, side_of}
use Rattle.channel.proofs.Opening.{agrees_at, keeps_at, opened_answers, opened_side, writes_at}
use Rattle.channel.proofs.lane.open_lane.Goals as goal

pub invariant_of-channel : goal.invariant_of-channel
invariant_of-channel g c =
    let story = c.new.ensures.stream in
    let state = c.new-2.ensures in
    let fixed = c.note-fixed.ensures in
    let link : IsTrue g.L.Link.tells → g.L.Link.state c.new.result.link ≡ opened c.args.now =
    λ t. ap g.L.Link.state c.new.ensures.link ∙ c.requires.fresh t in
    record {
      app_is = ap (λ s. s.fixed.value.app) state ∙ ap (λ f. f.app) fixed;
      site_is = ap (λ s. s.fixed.value.site) state ∙ ap (λ f. f.site) fixed;
      peer_is = ap (λ s. s.fixed.value.peer) state
          ∙ (ap (λ f. f.peer) fixed ∙ sym c.new.ensures.peer);
      window_is = ap (λ s. s.fixed.value.window) state
          ∙ (ap (λ f. f.window) fixed ∙ sym c.new.ensures.window);
      sound = c.requires.sound;
      positive = search rules;
      usable = search rules;
      agrees = agrees_at _ _ (ap (λ a. a.left) c.note.ensures)
          (ap (λ a. a.right) c.note.ensures) _ _ c.note-fixed.result c.new-output.result state
          (ap (λ b. b.bytes) c.new-output.ensures);
      keeps = keeps_at _ _ (ap (λ a. a.left) c.note.ensures)
          (ap (λ a. a.right) c.note.ensures) _ _ _ _
          (opened_side _ _ _ (side_of (linked g.L.Link.tells g.L.Link.state g.L.Link.faults
          g.L.Link.key g.L.Link.plan) (known_by g.P.Spill.Spill.tells g.A.App.tells
          g.A.App.script g.P.Spill.Spill.faults g.A.Run.AppRun.faults
          g.A.Run.AppRun.spill_faults) c.new.result)
          (ap (λ s. s.limits) story ∙ sym (ap (λ s. s.fixed.value.limits) state
          ∙ ap (λ f. f.limits) fixed)) (ap (λ s. s.fed) story) (ap (λ s. s.failed) story)
          (ap (λ s. s.over) story) (ap (λ s. s.held) story) c.new.ensures.buried
          (λ t. ap (λ (s : LinkState). s.arrivals) (link t))
          (λ t. ap (λ (s : LinkState). s.sent) (link t)) (λ t. c.new.ensures.ended
          ∙ sym (ap (λ (s : LinkState). s.ended) (link t))) (λ t. c.new.ensures.touched
          ∙ sym (ap (λ (s : LinkState). s.touched) (link t))));
      answers = opened_answers _ _ (ap (λ s. s.dead) state);
      settled = refl;
      writes = writes_at _ _ (ap (λ a. a.left) c.note.ensures)
          (ap (λ a. a.right) c.note.ensures) _ _ _ _ _;
    }
