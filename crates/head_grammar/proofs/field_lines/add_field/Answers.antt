-- A value goes to the field of its name, or a field is the last one.
use Rattle.std.proofs.Common.{◌∙◌, ◌++◌, ◌∷◌, [], sym, ap, length, rules, refl, Some, None, set}
use Rattle.std.proofs.Common.{cond}
use Rattle.std.specs.Prelude.{position}
use Rattle.std.specs.BTreeMap.{get_by}
use Rattle.std.specs.Cmp.Lexicographic.{slice_cmp}
use Rattle.std.specs.Ordering.{nat_cmp}
use Rattle.std.proofs.lemmas.List.Quantifiers.{position-Some}
use Rattle.std.proofs.lemmas.Result.{on_ok_weaker}
use Rattle.std.proofs.lemmas.Map.Text.{btree_map_updates_str}
use Rattle.head_grammar.specs.FieldLines.{has_name}
use Rattle.head_grammar.specs.Combining.{with_value}
use Rattle.head_grammar.specs.declared.types.Field.{Field}
use Rattle.head_grammar.proofs.Places.{added_some, added_none, place_is, places_last}
use Rattle.std.specs.Str.{bytes_eq}
use Rattle.std.proofs.lemmas.List.{get_or_default}
use Rattle.head_grammar.proofs.field_lines.add_field.Goals as goal

pub index_mut-requires : goal.index_mut-requires
index_mut-requires c =
    let field : Field = record { name = c.args.name.now; value = c.args.value.now } in
    let place = place_is c.args.places.now c.args.fields.now.items c.args.name.now
    c.args.name.now (Some c.in-Some.place.now) c.requires refl c.in-Some.ensures.value in
    let l = (position-Some (λ other. has_name c.args.name.now other) c.args.fields.now.items
    c.in-Some.place.now field place).0 in
    search rules

pub returns-in-Some-clause-fields : goal.returns-in-Some-clause-fields
returns-in-Some-clause-fields c =
    let field : Field = record { name = c.args.name.now; value = c.args.value.now } in
    let place = place_is c.args.places.now c.args.fields.now.items c.args.name.now
    c.args.name.now (Some c.in-Some.place.now) c.requires refl c.in-Some.ensures.value in
    let within = (position-Some (λ other. has_name c.args.name.now other)
    c.args.fields.now.items c.in-Some.place.now field place).0 in
    on_ok_weaker c.add_value.result
    (λ new. ap (set c.args.fields.now.items c.in-Some.place.now) (new
    ∙ ap (λ field. with_value field c.args.value.now) (c.index_mut.ensures.value
    ∙ get_or_default c.args.fields.now.items c.in-Some.place.now c.index_mut.result.now
    field within)) ∙
    sym (added_some c.args.fields.now.items field c.in-Some.place.now place))
    c.add_value.ensures

pub returns-in_ok-push-in-None-clause-places : goal.returns-in_ok-push-in-None-clause-places
returns-in_ok-push-in-None-clause-places c = λ name.
    let field : Field = record { name = c.args.name.now; value = c.args.value.now } in
    let place = place_is c.args.places.now c.args.fields.now.items c.args.name.now
    c.args.name.now None c.requires refl c.in-None.ensures.value in
    let items = c.in_ok-push-in-None.ensures.items
    ∙ ap (λ field. c.args.fields.now.items ++ field ∷ []) c.in_ok-copied-in-None.ensures in
    let updates = btree_map_updates_str c.args.name.now c.args.places.now
    c.insert.new.self _ c.in_ok-insert-in-None.ensures.updates name in
    updates ∙
    (ap (λ n. cond (bytes_eq c.args.name.now name) (Some n)
    (get_by (λ k. slice_cmp nat_cmp name k.now) c.args.places.now)) (search rules) ∙
    (ap (cond (bytes_eq c.args.name.now name) (Some (length c.args.fields.now.items)))
    (c.requires name) ∙
    (sym (places_last c.args.fields.now.items field name place)
    ∙ ap (position (λ other. has_name name other)) (sym items))))

pub returns-in_ok-push-in-None-clause-fields : goal.returns-in_ok-push-in-None-clause-fields
returns-in_ok-push-in-None-clause-fields c =
    let field : Field = record { name = c.args.name.now; value = c.args.value.now } in
    let place = place_is c.args.places.now c.args.fields.now.items c.args.name.now
    c.args.name.now None c.requires refl c.in-None.ensures.value in
    let items = c.in_ok-push-in-None.ensures.items
    ∙ ap (λ field. c.args.fields.now.items ++ field ∷ []) c.in_ok-copied-in-None.ensures in
    items ∙ sym (added_none c.args.fields.now.items field place)
