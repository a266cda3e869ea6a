use Rattle.std.proofs.Common.{rules, arith, ◌≡◌, ◌<◌, ◌≤◌, ◌++◌, ◌∷◌, [], length, length-append}
use Rattle.std.proofs.Common.{◌+◌, refl, sym, ap}
use Rattle.std.specs.List.{Contains, remove}
use Rattle.std.proofs.lemmas.List.Edits.{length-remove}
use Rattle.std.proofs.lemmas.Option.{slice_get_read}
use Rattle.outside.specs.MemNet.{seat_of}
use Rattle.outside.proofs.Comers.{none_due, due_within, all_left, comers_left}
use Rattle.outside.proofs.mem_net.calls.MemNetNet.accept.Goals as goal

pub invariant_of-self-in_default : goal.invariant_of-self-in_default
invariant_of-self-in_default c =
    let i = c.self.invariant in
    let none = none_due c.self.inside.waiting.items c.self.inside.polls (search rules) in
    record {
      plan = i.plan;
      few = i.few;
      accepted = i.accepted;
      open_ones = i.open_ones;
      room = i.room;
      over = i.over;
      past = i.past;
      begun = i.begun;
      comers = i.comers;
      who = i.who;
      cleared = λ k d within. rw c.of.ensures (none k d within);
      first = i.first;
      last = i.last;
      polled = i.polled;
      bind_caused = i.bind_caused;
      poll_caused = i.poll_caused;
    }

pub invariant_of-self-2 : goal.invariant_of-self-2
invariant_of-self-2 c =
    let i = c.self.invariant in
    let at = c.in-Some.at in
    let waiting = c.self.inside.waiting.items in
    let old_given = c.self.inside.given.value in
    let comer = c.in-Some-remove.comer in
    let within : at < length waiting = due_within waiting _ at comer (sym c.in-Some.ensures) in
    let rest : c.remove.new.self.items ≡ remove waiting at = c.in-Some-remove.ensures.items in
    let shorter : length c.remove.new.self.items + 1 ≡ length waiting =
    rw rest (length-remove waiting at within) in
    let given : c.note.result.value ≡ old_given ++ seat_of comer ∷ [] =
    rw (← c.of-2.ensures) c.note.ensures in
    let longer = length-append old_given (seat_of comer ∷ []) in
    record {
      plan = i.plan;
      few = omega (arith, i.few, shorter);
      accepted = omega (arith, ap length given, longer, i.accepted);
      open_ones = omega (arith, i.open_ones);
      room = search rules;
      over = λ stopped quiet. absurd (omega (arith, (i.over stopped quiet).1, within));
      past = i.past;
      begun = i.begun;
      comers = rw (given, rest) (comers_left c.self.inside.plan.value old_given waiting at comer
          within c.in-Some-remove.ensures.value i.comers);
      who = rw rest (all_left (Contains c.self.inside.plan.value.comers) at waiting within i.who);
      cleared = rw rest (all_left (λ comer. c.self.inside.cleared.value ≤ comer.turn) at waiting
          within i.cleared);
      first = i.first;
      last = i.last;
      polled = i.polled;
      bind_caused = i.bind_caused;
      poll_caused = i.poll_caused;
    }

pub returns-clause-told : goal.returns-clause-told
returns-clause-told c =
    let i = c.self.invariant in
    let waiting = c.self.inside.waiting.items in
    let within : c.in-Some.at < length waiting =
    due_within waiting _ c.in-Some.at c.in-Some-remove.comer (sym c.in-Some.ensures) in
    rw (← c.self.view_is) (record {
      state = rw (
        c.note.ensures,
        c.of-2.ensures,
        c.next_fails.ensures.counted,
        c.reserve.ensures.items,
        c.open-link.ensures,
      ) refl;
      quiet = λ quiet stopped. omega (arith, (i.over stopped quiet).1, within);
    })

pub returns-clause-rest : goal.returns-clause-rest
returns-clause-rest c =
    let i = c.self.invariant in
    let at = c.in-Some.at in
    let waiting = c.self.inside.waiting.items in
    let comer = c.in-Some-remove.comer in
    let first = sym c.in-Some.ensures in
    let within : at < length waiting = due_within waiting _ at comer first in
    rw (← c.self.view_is) (record {
      place = at;
      comer = comer;
      first = first;
      is = slice_get_read waiting (length waiting) at comer refl within
          c.in-Some-remove.ensures.value;
      peer = refl;
      link = rw (c.open-link.ensures, i.accepted) refl;
      rest = rw c.in-Some-remove.ensures.items refl;
    })
