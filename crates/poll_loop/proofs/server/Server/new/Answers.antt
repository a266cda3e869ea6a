use Rattle.std.proofs.Common.{rules, ◌≡◌, ℕ, ◌+◌, ◌≤◌, length, List, [], ap, sym, subst, arith}
use Rattle.std.proofs.Common.{Option, None, Some}
use Rattle.poll_loop.specs.Connections.{Counted}
use Rattle.poll_loop.specs.Lists.{EachIs}
use Rattle.poll_loop.proofs.server.Server.new.Goals as goal

none_counted : {X : Type 0} (limit : Option ℕ) (xs : List X) → xs ≡ [] →
    Counted limit 0 0 (length xs)
none_counted None xs e = tt
none_counted (Some limit) xs e = let n = ap length e in (omega arith, omega (arith, n))

each_of_none : {X : Type 0} (P : X → Type 0) (xs : List X) → xs ≡ [] → EachIs P xs
each_of_none P xs e = subst (EachIs P) (sym e) tt

few : {X Y : Type 0} (limit : ℕ) (xs : List X) (ys : List Y) → xs ≡ [] → ys ≡ [] →
    length xs + length ys ≤ limit
few limit xs ys e f = let a = ap length e in let b = ap length f in omega (arith, a, b)

pub returns-clause-stands : goal.returns-clause-stands
returns-clause-stands g c = record {
  usable = c.requires.usable;
  rest = each_of_none _ _ c.new.ensures.items;
  by = each_of_none _ _ c.new.ensures.items;
  room = few _ _ _ c.new-2.ensures.items c.new.ensures.items;
  broke = search rules;
  recv = search rules;
  within = let e = ap length c.new.ensures.items in omega (arith, e);
  counted = none_counted c.args.settings.now.serve_limit _ c.new.ensures.items;
}
