use Rattle.std.proofs.Common.{rules, arith, ◌≡◌, Some, true}
use Rattle.std.specs.Prelude.{unwrap_or}
use Rattle.outside.specs.Memory.{is_listed}
use Rattle.outside.specs.MemNet.{PolledByPlan}
use Rattle.outside.specs.MemNetView.{found_in, poll_in}
use Rattle.outside.specs.Net.{Poll}
use Rattle.outside.specs.declared.plans.LinkPlan.{LinkPlan}
use Rattle.outside.specs.declared.mem_net.noted.LastPoll.{LastPoll}
use Rattle.outside.proofs.LastPolls.{first_moment, still_begun, of_last, by_plan}
use Rattle.outside.proofs.mem_net.calls.MemNetNet.poll.Goals as goal

pub invariant_of-self-2 : goal.invariant_of-self-2
invariant_of-self-2 c =
    let i = c.self.invariant in
    let p : LastPoll = record {
      wants = c.answer_all.new.wants.items;
      accepting = c.args.accepting;
      turn = record { now = c.moment_of.result; stop = c.stops.result; come = c.comes.result };
      given = c.self.inside.given.value;
      live = c.self.inside.live;
      number = c.self.inside.polls;
      waiting = c.self.inside.waiting.items;
    } in
    let told : c.note-2.result.value ≡ Some p =
    rw (← c.of-2.ensures, ← c.of-3.ensures, ← c.of-4.ensures) c.note-2.ensures in
    let moments = c.self.inside.plan.value.moments in
    let listed : is_listed moments c.moment_of.result ≡ true =
    rw i.plan.moments c.moment_of.ensures.listed in
    let polled : PolledByPlan c.self.inside.plan.value (found_in p) (poll_in p) = record {
      turn = record {
        moment = rw i.plan.moments c.moment_of.ensures.value;
        stop = rw i.plan.stop_at c.stops.ensures;
        come = rw (← c.next_fails.ensures.counted) c.comes.ensures;
      };
      ready = c.answer_all.ensures.met;
      comers = i.comers;
      who = i.who;
    } in
    let rises = i.plan.rising.later c.self.inside.polls c.next_fails.new.calls
    (omega (arith, c.next_fails.ensures.counted)) in
    let old_first = c.self.inside.first.value in
    let first_told : c.note.result.value ≡ Some (unwrap_or old_first c.moment_of.result) =
    rw (← c.of.ensures) c.note.ensures in
    record {
      plan = i.plan;
      few = i.few;
      accepted = i.accepted;
      open_ones = i.open_ones;
      room = i.room;
      over = search rules;
      past = rw (told, c.moment_of.ensures.value) rises;
      begun = still_begun old_first _ c.moment_of.result _ first_told
          (rw c.moment_of.ensures.value i.begun) (rw c.moment_of.ensures.value rises);
      comers = i.comers;
      who = i.who;
      cleared = i.cleared;
      first = first_moment moments old_first c.moment_of.result _ first_told i.first listed;
      last = of_last _ p (λ (poll : Poll LinkPlan). is_listed moments poll.turn.now ≡ true) told
          listed;
      polled = by_plan _ p c.self.inside.plan.value told polled;
      bind_caused = i.bind_caused;
      poll_caused = i.poll_caused;
    }
