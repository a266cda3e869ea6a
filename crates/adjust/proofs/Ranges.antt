-- Values without a fault are in their ranges.
use Rattle.std.proofs.Common.{◌≡◌, ◌∙◌, ◌<◌, ◌≤◌, ◌+◌, ℕ, suc, zero, Bool, true, false, List, []}
use Rattle.std.proofs.Common.{◌∷◌, length, map, take, get_or, None, Some, refl, ap, sym, cond}
use Rattle.std.proofs.Common.{arith, codes}
use Rattle.std.specs.Prelude.{Option, IfSome, ◌&&◌, ◌||◌, nat_le, nat_lt, ◌==◌, slice_get, is_some}
use Rattle.std.specs.Prelude.{option_map, option_and_then, unwrap_or}
use Rattle.std.specs.List.{cons_option, filter, filter_map, list_any, prefix_len}
use Rattle.std.specs.Option.{option_map_or, option_or}
use Rattle.std.proofs.lemmas.Bool.{leb-true, ltb-false}
use Rattle.std.proofs.lemmas.List.{length-take}
use Rattle.std.proofs.lemmas.List.Sums.{prefix_len-le-length}
use Rattle.clap.specs.Words.{Row as Found}
use Rattle.adjust.specs.Command.{adjustments_of, default_kinds, default_of, first_fault}
use Rattle.adjust.specs.Command.{first_value_fault, number_at, place_of, range_fault, row_fault}
use Rattle.adjust.specs.Command.{value, value_fault, is_given}
use Rattle.adjust.specs.Lists.{bad_entry, entry, is_among, is_entry, kind_rows, kinds, listen_of}
use Rattle.adjust.specs.Lists.{parts}
use Rattle.adjust.specs.Options.{Row, option_rows}
use Rattle.adjust.specs.Ranges.{IsBetween, IsInRange, is_forwarded}
use Rattle.adjust.specs.Values.{number}
use Rattle.adjust.specs.declared.options.Form.TheVariants.{Addresses, Number}
use Rattle.adjust.specs.declared.options.Field.TheVariants.{NotShown}
use Rattle.adjust.specs.declared.types.UsageFault.{UsageFault}
use Rattle.adjust.specs.declared.types.UsageFault.TheVariants.{BadListen}

-- ---- no row has a fault

none_left : {X : Type 0} (a b : Option X) → option_or a b ≡ None → a ≡ None
none_left None b e = refl
none_left (Some x) b e = cc

pub first_none : (words : List Found) → first_fault words ≡ None → first_value_fault words ≡ None
unfolding first_fault
first_none words e = none_left _ _ (none_left _ _ (none_left _ _ (none_left _ _ e)))

empty_by : {X : Type 0} (xs : List X) → slice_get xs 0 ≡ None → xs ≡ []
empty_by [] e = refl
empty_by (x ∷ xs) e = cc

cons_empty : {X : Type 0} (r : Option X) (xs : List X) → cons_option r xs ≡ [] →
    (r ≡ None) × (xs ≡ [])
cons_empty None xs e = (refl, e)
cons_empty (Some x) xs e = cc

each_none : {X Y : Type 0} (h : X → Option Y) (xs : List X) (i : ℕ) (d : X) → i < length xs →
    filter_map h xs ≡ [] → h (get_or xs i d) ≡ None
each_none h [] i d within e = absurd (omega arith)
each_none h (x ∷ xs) zero d within e = (cons_empty (h x) (filter_map h xs) e).0
each_none h (x ∷ xs) (suc i) d within e = each_none h xs i d (omega arith)
    (cons_empty (h x) (filter_map h xs) e).1

abbrev no_row : Row
no_row = record { name = []; form = Number 0 0; field = NotShown; default = [] }

abbrev row_at : ℕ → Row
row_at i = get_or option_rows i no_row

rows_none : (words : List Found) (i : ℕ) → i < length option_rows → first_value_fault words ≡ None →
    row_fault words (row_at i) ≡ None
unfolding first_value_fault
rows_none words i within e = each_none (row_fault words) option_rows i no_row within (empty_by _ e)

-- ---- numbers

both : (a b : Bool) → (a && b) ≡ true → (a ≡ true) × (b ≡ true)
both true b h = (refl, h)
both false b h = cc

between_by : (low high n : ℕ) → (nat_le low n && nat_le n high) ≡ true → IsBetween low high n
between_by low high n is =
    let h = both (nat_le low n) (nat_le n high) is in record
    { from = leb-true low n h.0; to = leb-true n high h.1 }

none_by : {X : Type 0} (t : Bool) (x : X) → cond t None (Some x) ≡ None → t ≡ true
none_by true x e = refl
none_by false x e = cc

-- what is wrong with a number that may be given
abbrev number_fault : ℕ → ℕ → ℕ → Option (List ℕ) → Option UsageFault
number_fault place low high v = option_and_then (value_fault place (Number low high)) v

read_between : (place low high : ℕ) (r : Option ℕ) → range_fault place low high r ≡ None →
    IsBetween low high (unwrap_or r 0)
read_between place low high None e = cc
read_between place low high (Some n) e = between_by low high n
    (none_by (nat_le low n && nat_le n high) _ e)

given_between : (place low high : ℕ) (default : List ℕ) (v : Option (List ℕ)) → is_some v ≡ true →
    number_fault place low high v ≡ None → IsBetween low high
    (unwrap_or (number (unwrap_or v default)) 0)
given_between place low high default None given e = cc
given_between place low high default (Some []) given e = cc
given_between place low high default (Some (b ∷ bs)) given e =
    read_between place low high (number (b ∷ bs)) e

number_between : (place low high : ℕ) (default : List ℕ) (v : Option (List ℕ)) →
    IsBetween low high (unwrap_or (number default) 0) →
    number_fault place low high v ≡ None → IsBetween low high
    (unwrap_or (number (unwrap_or v default)) 0)
number_between place low high default None small e = small
number_between place low high default (Some v) small e =
    given_between place low high default (Some v) refl e

if_read : (place low high : ℕ) (r : Option ℕ) → range_fault place low high r ≡ None →
    IfSome r (IsBetween low high)
if_read place low high None e = tt
if_read place low high (Some n) e = read_between place low high (Some n) e

if_given : (place low high : ℕ) (v : Option (List ℕ)) → number_fault place low high v ≡ None →
    IfSome (option_and_then number v) (IsBetween low high)
if_given place low high None e = tt
if_given place low high (Some []) e = cc
if_given place low high (Some (b ∷ bs)) e = if_read place low high (number (b ∷ bs)) e

-- the row of a number has no fault
number_row : (words : List Found) (i low high : ℕ) → i < length option_rows →
    (row_at i).form ≡ Number low high → first_value_fault words ≡ None →
    number_fault (place_of (row_at i).name) low high (value words (row_at i).name) ≡ None
number_row words i low high within form none =
    ap (λ f. option_and_then (value_fault (place_of (row_at i).name) f)
    (value words (row_at i).name)) (sym form) ∙ rows_none words i within none

-- a number whose default is in its range
number_in : (words : List Found) (i low high : ℕ) → i < length option_rows →
    (row_at i).form ≡ Number low high →
    IsBetween low high (unwrap_or (number (default_of (row_at i).name)) 0) →
    first_value_fault words ≡ None → IsBetween low high (number_at words (row_at i).name)
number_in words i low high within form small none =
    number_between (place_of (row_at i).name) low high (default_of (row_at i).name)
    (value words (row_at i).name) small (number_row words i low high within form none)

-- ---- addresses

one_more : {X : Type 0} (r : Option X) (xs : List X) (n : ℕ) → length xs ≤ n →
    length (cons_option r xs) ≤ suc n
one_more None xs n l = omega arith
one_more (Some x) xs n l = omega arith

length_filter_map : {X Y : Type 0} (h : X → Option Y) (xs : List X) →
    length (filter_map h xs) ≤ length xs
length_filter_map h [] = omega arith
length_filter_map h (x ∷ xs) = one_more (h x) (filter_map h xs) (length xs) (length_filter_map h xs)

no_bad : (t u : Bool) (n : ℕ) → cond (t || u) (Some n) None ≡ None → t ≡ false
no_bad true u n e = cc
no_bad false u n e = refl

few_entries : (entries : List (List ℕ)) → bad_entry entries ≡ None → length entries ≤ 16
unfolding bad_entry
few_entries entries e =
    let good = prefix_len is_entry (take 16 entries) in
    let all = ltb-false good (length entries) (no_bad (nat_lt good (length entries))
    (length entries == 0) (good + 1) e) in
    let front = prefix_len-le-length is_entry (take 16 entries) in
    let room = length-take 16 entries in
    omega arith

few_listens : (text : List ℕ) → bad_entry (parts false text) ≡ None → length (listen_of text) ≤ 16
unfolding listen_of
few_listens text e =
    let few = few_entries (parts false text) e in
    let less = length_filter_map entry (parts false text) in
    omega arith

no_listens : length (listen_of []) ≤ 16
unfolding listen_of parts
no_listens = omega arith

no_entry : (r : Option ℕ) → option_map (λ k. BadListen k) r ≡ None → r ≡ None
no_entry None e = refl
no_entry (Some k) e = cc

listens_in : (place : ℕ) (v : Option (List ℕ)) → option_and_then (value_fault place Addresses)
    v ≡ None → length (listen_of (unwrap_or v [])) ≤ 16
listens_in place None e = no_listens
listens_in place (Some []) e = cc
listens_in place (Some (b ∷ bs)) e = few_listens (b ∷ bs)
    (no_entry (bad_entry (parts false (b ∷ bs))) e)

-- ---- kinds

neither : (a b : Bool) → (a || b) ≡ false → (a ≡ false) × (b ≡ false)
neither true b e = cc
neither false b e = (refl, e)

none_behind : {X Y : Type 0} (p : Y → Bool) (f : X → Y) (t : Bool) (x : X) (xs : List X) →
    p (f x) ≡ false → list_any p (map f xs) ≡ false →
    list_any p (map f (cond t (x ∷ xs) xs)) ≡ false
none_behind p f true x xs here rest = ap (λ t. t || list_any p (map f xs)) here ∙ rest
none_behind p f false x xs here rest = rest

none_of : {X Y : Type 0} (p : Y → Bool) (f : X → Y) (q : X → Bool) (xs : List X) →
    list_any (λ x. p (f x)) xs ≡ false → list_any p (map f (filter q xs)) ≡ false
none_of p f q [] none = refl
none_of p f q (x ∷ xs) none =
    let apart = neither (p (f x)) (list_any (λ y. p (f y)) xs) none in
    none_behind p f (q x) x (filter q xs) apart.0 (none_of p f q xs apart.1)

named_kinds : (text : List ℕ) → list_any is_forwarded (kinds text) ≡ false
unfolding kinds kind_rows
named_kinds text = none_of is_forwarded (λ row. row.1) (λ row. is_among (parts true text) row.0)
    kind_rows refl

kinds_in : (v : Option (List ℕ)) (trusted : Bool) → list_any is_forwarded
    (option_map_or kinds v (default_kinds trusted)) ≡ false
kinds_in None true = refl
kinds_in None false = refl
kinds_in (Some text) trusted = named_kinds text

-- ---- all of them

pub in_range : (words : List Found) → first_value_fault words ≡ None →
    IsInRange (adjustments_of words)
unfolding adjustments_of option_rows number
in_range words none = record {
  port = number_in words 1 1 65535 (omega arith) refl (between_by _ _ _ refl) none;
  listen = listens_in _ (value words (codes "listen")) (rows_none words 2 (omega arith) none);
  threads = number_in words 3 0 64 (omega arith) refl (between_by _ _ _ refl) none;
  trusted_proxy_count = number_in words 5 1 100 (omega arith) refl (between_by _ _ _ refl) none;
  trusted_proxy_headers = kinds_in (value words (codes "trusted-proxy-headers"))
      (is_given words (codes "trusted-proxy"));
  backlog = number_in words 13 1 65535 (omega arith) refl (between_by _ _ _ refl) none;
  recv_bytes = number_in words 14 1 1048576 (omega arith) refl (between_by _ _ _ refl) none;
  inbuf_overflow = number_in words 15 1 1073741824 (omega arith) refl (between_by _ _ _ refl) none;
  outbuf_overflow = number_in words 16 1 1073741824 (omega arith) refl (between_by _ _ _ refl) none;
  outbuf_high_watermark = number_in words 17 0 1073741824 (omega arith) refl (between_by _ _ _ refl)
      none;
  connection_limit = number_in words 18 1 1000 (omega arith) refl (between_by _ _ _ refl) none;
  cleanup_interval = number_in words 19 1 86400 (omega arith) refl (between_by _ _ _ refl) none;
  channel_timeout = number_in words 20 1 86400 (omega arith) refl (between_by _ _ _ refl) none;
  max_request_header_size = number_in words 21 16 16777216 (omega arith) refl
      (between_by _ _ _ refl) none;
  max_request_body_size = number_in words 22 1 1099511627776 (omega arith) refl
      (between_by _ _ _ refl) none;
  channel_request_lookahead = number_in words 23 0 1000 (omega arith) refl (between_by _ _ _ refl)
      none;
  serve_limit = if_given _ 1 1000000000 (value words (codes "serve-limit"))
      (number_row words 24 1 1000000000 (omega arith) refl none);
}

pub rehearsed : (words : List Found) → first_value_fault words ≡ None →
    is_given words (codes "rehearse") ≡ true → IsBetween 1 20000
    (number_at words (codes "rehearse"))
unfolding option_rows
rehearsed words none given =
    given_between _ 1 20000 (default_of (codes "rehearse")) (value words (codes "rehearse")) given
    (number_row words 25 1 20000 (omega arith) refl none)
