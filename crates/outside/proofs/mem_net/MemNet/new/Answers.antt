use Rattle.std.proofs.Common.{rules, ◌≡◌, ap}
use Rattle.outside.proofs.Comers.{all_come, nobody_given}
use Rattle.outside.proofs.mem_net.MemNet.new.Goals as goal

pub invariant_of-result : goal.invariant_of-result
invariant_of-result c =
    let plan = c.args.plan in
    let waiting = c.from_vec.result.items in
    let same : c.of-whole.result.value ≡ plan = search rules in
    let all : waiting ≡ plan.comers = search rules in
    record {
      plan = record {
        moments = ap (λ p. p.moments) same;
        stop_at = ap (λ p. p.stop_at) same;
        bind_fails = ap (λ p. p.bind_fails) same;
        poll_fails = ap (λ p. p.poll_fails) same;
        accept_fails = ap (λ p. p.accept_fails) same;
        some_moment = c.requires.some_moment;
        rising = c.requires.rising;
      };
      few = search rules;
      accepted = search rules;
      open_ones = search rules;
      room = search rules;
      over = search rules;
      past = search rules;
      begun = search rules;
      comers = rw same (nobody_given plan _ waiting c.note.ensures all);
      who = rw same (all_come plan waiting all);
      cleared = search rules;
      first = search rules;
      last = search rules;
      polled = search rules;
      bind_caused = search rules;
      poll_caused = search rules;
    }
