-- The declared length, field by field.
use Rattle.std.proofs.Common.{◌≡◌, ◌<◌, ◌≤◌, ℕ, suc, Bool, true, false, List, [], ◌∷◌, length, drop}
use Rattle.std.proofs.Common.{get_or, cond, Option, Some, None, codes, refl, ap, sym, ◌∙◌}
use Rattle.std.proofs.Math.Seq.{drop-cons}
use Rattle.std.proofs.lemmas.List.{drop_all}
use Rattle.std.specs.Prelude.{if◌then◌else◌, find, is_some, option_map}
use Rattle.std.specs.Str.Parse.{digits_value}
use Rattle.head_grammar.specs.declared.types.Field.{Field}
use Rattle.task_core.specs.Starts.{are_lengths, declared_length, is_length, is_named, lengths}

-- what a field is read as
abbrev pub length_value : Field → Option ℕ
length_value field = if is_length field then Some (digits_value 10 field.value) else None

-- behind one field that declares the length
abbrev pub declares : Option ℕ → Option ℕ → (Option ℕ → Option (Option ℕ)) → Option (Option ℕ)
declares (Some n) value goes_on = None
declares None None goes_on = None
declares None (Some n) goes_on = goes_on (Some n)

-- what the fields from here on make of the length so far
abbrev pub read_on : Option ℕ → List Field → Option (Option ℕ)
read_on declared [] = Some declared
read_on declared (field ∷ rest) =
    if is_named (codes "content-length") field
    then declares declared (length_value field) (λ next. read_on next rest) else read_on declared
    rest

abbrev alone : Option (Option ℕ) → List Field → Option (Option ℕ)
alone value [] = value
alone value (field ∷ fields) = None

alone_next : (b : Bool) (n : ℕ) (field : Field) (rest : List Field) →
    read_on (Some n) rest ≡ alone (Some (Some n)) (lengths rest) →
    cond b (declares (Some n) (length_value field) (λ next. read_on next rest))
    (read_on (Some n) rest)
    ≡ alone (Some (Some n)) (cond b (field ∷ lengths rest) (lengths rest))
alone_next true n field rest h = refl
alone_next false n field rest h = h

no_further : (n : ℕ) (fields : List Field) → read_on (Some n) fields ≡ alone (Some (Some n))
    (lengths fields)
no_further n [] = refl
no_further n (field ∷ rest) =
    alone_next (is_named (codes "content-length") field) n field rest (no_further n rest)

-- the fields as a whole
abbrev verdict : List Field → Option ℕ → Option (Option ℕ)
verdict lengths declared = if are_lengths lengths then Some declared else None

first_by : (b : Bool) (field : Field) (rest : List Field) (others : List Field) →
    b ≡ is_length field → read_on (Some (digits_value 10 field.value)) rest
    ≡ alone (Some (Some (digits_value 10 field.value))) others →
    declares None (cond b (Some (digits_value 10 field.value)) None) (λ next. read_on next rest)
    ≡ verdict (field ∷ others) (Some (digits_value 10 field.value))
first_by true field rest [] e h = h ∙ ap (λ t. cond t (Some (Some (digits_value 10 field.value)))
    None) e
first_by true field rest (other ∷ others) e h = h
first_by false field rest [] e h = ap (λ t. cond t (Some (Some (digits_value 10 field.value))) None)
    e
first_by false field rest (other ∷ others) e h = refl

first_next : (b : Bool) (field : Field) (rest : List Field) →
    read_on None rest ≡ verdict (lengths rest)
    (option_map (λ field. digits_value 10 field.value) (find (is_named (codes "content-length"))
    rest)) →
    cond b (declares None (length_value field) (λ next. read_on next rest)) (read_on None rest)
    ≡ verdict (cond b (field ∷ lengths rest) (lengths rest))
    (option_map (λ field. digits_value 10 field.value)
    (cond b (Some field) (find (is_named (codes "content-length")) rest)))
first_next true field rest h =
    first_by (is_length field) field rest (lengths rest) refl
    (no_further (digits_value 10 field.value) rest)
first_next false field rest h = h

by_fields : (fields : List Field) → read_on None fields ≡ verdict (lengths fields)
    (option_map (λ field. digits_value 10 field.value) (find (is_named (codes "content-length"))
    fields))
by_fields [] = refl
by_fields (field ∷ rest) =
    first_next (is_named (codes "content-length") field) field rest (by_fields rest)

pub read_whole : (fields : List Field) → read_on None fields
    ≡ (if are_lengths (lengths fields) then Some (declared_length fields) else None)
unfolding declared_length
read_whole fields = by_fields fields

-- a second field that declares the length, and one that isn't a length
pub second_declared : (declared : Option ℕ) (field : Field) (rest : List Field) →
    is_some declared ≡ true →
    is_named (codes "content-length") field ≡ true → read_on declared (field ∷ rest) ≡ None
second_declared None field rest some named = let no : false ≡ true = some in absurd (cc)
second_declared (Some n) field rest some named =
    ap (λ b. cond b None (read_on (Some n) rest)) named

pub bad_length : (declared : Option ℕ) (field : Field) (rest : List Field) →
    length_value field ≡ None →
    is_named (codes "content-length") field ≡ true → read_on declared (field ∷ rest) ≡ None
bad_length (Some n) field rest bad named = ap (λ b. cond b None (read_on (Some n) rest)) named
bad_length None field rest bad named =
    ap (λ b. cond b (declares None (length_value field) (λ next. read_on next rest))
    (read_on None rest)) named
    ∙ ap (λ value. declares None value (λ next. read_on next rest)) bad

-- the field at a place is the first of those from there on
from_here : (declared : Option ℕ) (fields : List Field) (i : ℕ) (field : Field) →
    i < length fields →
    field ≡ get_or fields i field → read_on declared (drop i fields) ≡ read_on declared
    (field ∷ drop (suc i) fields)
from_here declared fields i field l e =
    ap (read_on declared) (drop-cons fields i field l ∙ ap (λ f. f ∷ drop (suc i) fields) (sym e))

-- where a field makes the length nothing, so do all fields
pub refused_here : (declared : Option ℕ) (fields : List Field) (i : ℕ) (field : Field) →
    i < length fields →
    field ≡ get_or fields i field → read_on declared (drop i fields) ≡ read_on None fields →
    read_on declared (field ∷ drop (suc i) fields) ≡ None →
    None ≡ (if are_lengths (lengths fields) then Some (declared_length fields) else None)
refused_here declared fields i field l e so_far none =
    sym none ∙ (sym (from_here declared fields i field l e) ∙ (so_far ∙ read_whole fields))

-- no field is left
pub none_left : (declared : Option ℕ) (fields : List Field) (i : ℕ) → length fields ≤ i →
    read_on declared (drop i fields) ≡ Some declared
none_left declared fields i l = ap (read_on declared) (drop_all i fields l)
