-- Lines that are sorted by their names.
use Rattle.std.proofs.Common.{◌≡◌, Bool, true, false, List, [], ◌∷◌, cond, refl, ap, ◌∙◌}
use Rattle.std.specs.Cmp.{IsStrictWeakOrder}
use Rattle.std.specs.Cmp.Lexicographic.{nat_list_cmp_total, slice_cmp}
use Rattle.std.specs.List.Sorted.{IsSortedBy, IsStableBy}
use Rattle.std.specs.Ordering.{is_lt, nat_cmp}
use Rattle.std.proofs.lemmas.List.Sorted.{ranks_by}
use Rattle.task_core.specs.Fields.{field_of, fields_of}
use Rattle.task_core.specs.ResponseHead.{sorted_by_name, with_field}
use Rattle.task_core.specs.declared.heads.Line.{Line}
use Rattle.task_core.proofs.Sorting.{insert_by, sort_by, sorted_is}

abbrev pub is_below : Line → Line → Bool
is_below a b = is_lt (slice_cmp nat_cmp a.name.now b.name.now)

pub names_rank : IsStrictWeakOrder is_below
names_rank = ranks_by nat_list_cmp_total (λ (line : Line). line.name.now)

insert_by_name : (b : Bool) (line other : Line) (lines : List Line) →
    fields_of (insert_by is_below line lines) ≡ with_field (field_of line) (fields_of lines) →
    fields_of (cond b (other ∷ insert_by is_below line lines) (line ∷ other ∷ lines))
    ≡ cond b (field_of other ∷ with_field (field_of line) (fields_of lines))
    (field_of line ∷ field_of other ∷ fields_of lines)
insert_by_name true line other lines h = ap (λ fs. field_of other ∷ fs) h
insert_by_name false line other lines h = refl

inserted : (line : Line) (lines : List Line) →
    fields_of (insert_by is_below line lines) ≡ with_field (field_of line) (fields_of lines)
inserted line [] = refl
inserted line (other ∷ lines) =
    insert_by_name (is_below other line) line other lines (inserted line lines)

pub sorted_fields : (lines : List Line) → fields_of (sort_by is_below lines) ≡ sorted_by_name
    (fields_of lines)
unfolding sorted_by_name
sorted_fields [] = refl
sorted_fields (line ∷ lines) =
    inserted line (sort_by is_below lines) ∙ ap (with_field (field_of line)) (sorted_fields lines)

pub sorted_lines : (old new : List Line) → IsSortedBy is_below new → IsStableBy is_below old new →
    fields_of new ≡ sorted_by_name (fields_of old)
sorted_lines old new up stable =
    ap fields_of (sorted_is is_below names_rank old new up stable) ∙ sorted_fields old
