-- The last parts of a list in which none is empty.
use Rattle.std.proofs.Common.{◌≡◌, ◌-◌, ap, sym, ◌∙◌, length, drop}
use Rattle.std.specs.List.{list_any}
use Rattle.std.specs.Prelude.{option_map}
use Rattle.std.proofs.lemmas.Result.{IfOk-weaker}
use Rattle.proxy_trust.specs.Lists.{is_empty, listed, listed_of, seen}
use Rattle.proxy_trust.proofs.Parts.{none_listed, some_listed, seen_parts}
use Rattle.proxy_trust.proofs.lists.read_list.Goals as goal

pub returns-then-have_empty : goal.returns-then-have_empty
returns-then-have_empty c =
    sym (none_listed c.args.count c.args.value.now c.in_ok-parts.parts.items c.in_ok-parts.ensures
    (ap (list_any (λ part. is_empty part.now)) (sym c.deref.ensures.value) ∙
    (sym c.have_empty.ensures ∙ c.if-have_empty.true)))

pub returns : goal.returns
returns c =
    IfOk-weaker c.read_last.result (λ read. option_map seen read ≡ listed_of
    (seen_parts c.last_of.result.now)) (λ read. option_map seen read ≡ listed c.args.count
    c.args.value.now)
    (λ read h. h ∙ sym (some_listed c.args.count c.args.value.now c.in_ok-parts.parts.items
    c.in_ok-parts.ensures
    (ap (list_any (λ part. is_empty part.now)) (sym c.deref.ensures.value) ∙
    (sym c.have_empty.ensures ∙ c.if-have_empty.false)) ∙
    (ap (λ xs. listed_of (seen_parts (drop (length xs - c.args.count) xs)))
    (sym c.deref-2.ensures.value) ∙
    ap (λ xs. listed_of (seen_parts xs)) (sym c.last_of.ensures))))
    c.read_last.ensures
