use Rattle.std.proofs.Common.{◌≡◌, ℕ, List, inl, [], None, length, refl, sym, subst, ap, arith}
use Rattle.std.proofs.Common.{append-nil, rules}
use Rattle.std.specs.Prelude.{Result, Err}
use Rattle.std.proofs.lemmas.List.Sorted.{IsPermutation-refl}
use Rattle.channel.specs.Output.{Script}
use Rattle.channel.specs.Views.{Telling, telling}
use Rattle.outside.specs.Net.{NetState}
use Rattle.poll_loop.specs.Accounts.{Served}
use Rattle.poll_loop.specs.Connections.{HasBroken, going_on, service_by, shutting_down}
use Rattle.poll_loop.specs.Entries.{EntryHolds, Service, spill_faults}
use Rattle.poll_loop.specs.NoIdle.{Serving, who}
use Rattle.poll_loop.specs.Seat.{Eyes, eyes_of}
use Rattle.poll_loop.specs.Server.{booked, serving}
use Rattle.poll_loop.specs.declared.settings.Going.{Going}
use Rattle.poll_loop.specs.declared.settings.ServeFault.{ServeFault}
use Rattle.poll_loop.specs.declared.settings.ServeFault.TheVariants as fault
use Rattle.poll_loop.specs.declared.settings.Settings.{Settings}
use Rattle.waitress_serve.specs.Conclusions.{ServedAll}
use Rattle.waitress_serve.proofs.serving.serve.Goals as goal

-- no server could be made
unserved : {L P R : Type 0} (service : Service) (broken : Type 0) (e : Eyes L P) (count : ℕ)
    (net : NetState L P) (runs : List R) → runs ≡ [] →
    ServedAll (Err fault.NoMemory) service broken (length runs) e count count net net
unserved {L} service broken e count net runs none_fell = record {
  who = [];
  served = record {
    before = [];
    after = [];
    closed = sym (append-nil net.closed);
    each = tt;
    last = tt;
    shut = tt;
    nobody = tt;
    since = [];
    given = sym (append-nil net.given);
    same = IsPermutation-refl _;
    live = omega arith;
    spilled = let none : spill_faults {L = L} [] ≡ 0 = refl in omega (arith, none);
    fell = ap length none_fell;
    bound = refl;
    quiet = refl;
    polls = omega arith;
    time = record { first = λ moment same. same; later = omega arith };
    knows = λ _. inl refl;
  };
}

-- a server without connections served
served_all : {L P A R : Type 0} (result : Result Going ServeFault) (tells : Telling)
    (script : A → Script) (broken : Type 0) (e : Eyes L P) (before now : ℕ) (old new : NetState L P)
    (fresh ended : Serving L A R) (app : A) (settings : Settings) (runs : List R) →
    runs ≡ ended.fallen →
    fresh ≡ record {
      app = app;
      settings = settings;
      open' = [];
      accepted = 0;
      retired = 0;
      checked = None;
      fallen = [];
    } →
    Served result (EntryHolds (service_by tells script fresh.settings fresh.app) (going_on broken)
    e.state e.faults)
    (EntryHolds (service_by tells script fresh.settings fresh.app) (shutting_down broken) e.state
    e.faults) e.plan (booked e old before fresh) (booked e new now ended) →
    ServedAll result (service_by tells script settings app) broken (length runs) e before now old
    new
served_all result tells script broken e before now old new fresh ended app settings runs are begins
    s = subst (λ rs. ServedAll result (service_by tells script settings app) broken (length rs) e
    before now old new) (sym are) (record {
      who = who e ended;
      served = subst (λ f. Served result (EntryHolds (service_by tells script f.settings f.app)
          (going_on broken) e.state e.faults)
          (EntryHolds (service_by tells script f.settings f.app) (shutting_down broken) e.state
          e.faults) e.plan (booked e old before f) (booked e new now ended)) begins s;
    })

pub returns-clause-served : goal.returns-clause-served
returns-clause-served g c = λ told.
    served_all c.serve-ended.result (telling g.N.Link.Link.tells g.P.Spill.Spill.tells
    g.A.App.tells) g.A.App.script (HasBroken g.A.Run.AppRun.faults)
    (eyes_of g.N.Link.Link) _ _ (g.N.Net.state c.args.net.now) (g.N.Net.state c.serve-ended.new.net)
    (serving c.in-Ok.server) (serving c.serve-ended.new.self) c.args.app.now c.args.settings.now
    c.failed.result.items c.failed.ensures.runs
    c.in-Ok.ensures.begins (c.serve-ended.ensures.served told)

pub returns-in_default-clause-served : goal.returns-in_default-clause-served
returns-in_default-clause-served g c = λ told. unserved _ _ _ _ _ c.new-in_default.result.items
    (search rules)
