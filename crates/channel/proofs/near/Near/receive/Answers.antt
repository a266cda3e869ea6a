use Rattle.std.proofs.Common.{rules, take}
use Rattle.channel.specs.Sides.{Came, linked}
use Rattle.channel.proofs.near.Near.receive.Goals as goal

came : (g : _) (c : goal.After-take_in g) → Came (linked g.L.Link.tells g.L.Link.state
    g.L.Link.faults g.L.Link.key g.L.Link.plan) c.args.now
    (take c.in-Got.count c.recv.new.into) c.args.self.now.link c.recv.new.self
came g c = record {
  told = c.in-Got.ensures.told;
  faults = search rules;
  key = c.recv.ensures.key;
  plan = c.recv.ensures.plan;
}

pub returns-in-Got-clause-turns : goal.returns-in-Got-clause-turns
returns-in-Got-clause-turns g c = c.take_in.ensures.turns c.args.self.now.link (came g c)

pub returns-in-Got-clause-hears : goal.returns-in-Got-clause-hears
returns-in-Got-clause-hears g c = c.take_in.ensures.hears c.args.self.now.link (came g c)
