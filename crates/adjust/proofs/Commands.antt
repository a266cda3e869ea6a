-- What the words ask for keeps the ranges, and what is wrong with them is never want of memory.
use Rattle.std.proofs.Common.{◌≡◌, ℕ, Bool, true, false, List, [], ◌∷◌, None, Some, Ok, Err, refl}
use Rattle.std.proofs.Common.{cond, codes}
use Rattle.std.specs.Prelude.{◌≢◌, Option, Result, IfOk, IfSome, MatchResult, nat_le, ◌&&◌, is_some}
use Rattle.std.specs.Prelude.{slice_get, option_map, option_and_then}
use Rattle.std.specs.List.{cons_option, filter_map}
use Rattle.std.specs.Option.{option_map_or, option_or}
use Rattle.std.specs.Str.{bytes_eq}
use Rattle.clap.specs.Words.{Row as Found}
use Rattle.adjust.specs.Command.{adjustments_of, application, application_of, asked, command}
use Rattle.adjust.specs.Command.{decided, first_fault, first_value_fault, fits, form_fault}
use Rattle.adjust.specs.Command.{is_given, is_on, named_by, number_at, operand, place_of}
use Rattle.adjust.specs.Command.{range_fault, row_fault, served, value, value_fault}
use Rattle.adjust.specs.CommandLine.{are_taken, given}
use Rattle.adjust.specs.Lists.{bad_entry, parts}
use Rattle.adjust.specs.Options.{option_rows}
use Rattle.adjust.specs.Ranges.{KeepsRanges}
use Rattle.adjust.specs.Values.{number}
use Rattle.adjust.specs.declared.options.Form.{Form}
use Rattle.adjust.specs.declared.options.Form.TheVariants.{Addresses, Number}
use Rattle.adjust.specs.declared.types.AppName.{AppName}
use Rattle.adjust.specs.declared.types.AppName.TheVariants.{Echo, Table, Dir}
use Rattle.adjust.specs.declared.types.Command.{Command}
use Rattle.adjust.specs.declared.types.Command.TheVariants.{Check, Rehearse, Help}
use Rattle.adjust.specs.declared.types.UsageFault.{UsageFault}
use Rattle.adjust.specs.declared.types.UsageFault.TheVariants as fault
use Rattle.adjust.proofs.Ranges.{first_none, in_range, rehearsed}

-- a fault of the words
abbrev IsOfWords : UsageFault → Type 0
IsOfWords f = f ≢ fault.NoMemory

-- ---- faults of options

range_of_words : (place low high : ℕ) (r : Option ℕ) → IfSome (range_fault place low high r)
    IsOfWords
range_of_words place low high None = λ e. cc
range_of_words place low high (Some n) = by_test (nat_le low n && nat_le n high)
  where
    by_test : (t : Bool) → IfSome (cond t None (Some (fault.OutOfRange place))) IsOfWords
    by_test true = tt
    by_test false = λ e. cc

fit_of_words : (place : ℕ) (t : Bool) → IfSome (cond t None (Some (fault.BadValue place))) IsOfWords
fit_of_words place true = tt
fit_of_words place false = λ e. cc

entry_of_words : (r : Option ℕ) → IfSome (option_map (λ k. fault.BadListen k) r) IsOfWords
entry_of_words None = tt
entry_of_words (Some k) = λ e. cc

form_of_words : (place : ℕ) (form : Form) (text : List ℕ) →
    IfSome (form_fault place form text) IsOfWords
form_of_words place (Number low high) text = range_of_words place low high (number text)
form_of_words place Addresses text = entry_of_words (bad_entry (parts false text))
form_of_words place form text = fit_of_words place (fits form text)

value_of_words : (place : ℕ) (form : Form) (v : Option (List ℕ)) →
    IfSome (option_and_then (value_fault place form) v) IsOfWords
value_of_words place form None = tt
value_of_words place form (Some []) = λ e. cc
value_of_words place form (Some (b ∷ bs)) = form_of_words place form (b ∷ bs)

first_by : {X : Type 0} (P : X → Type 0) (r : Option X) (xs : List X) → IfSome r P →
    IfSome (slice_get xs 0) P → IfSome (slice_get (cons_option r xs) 0) P
first_by P None xs here rest = rest
first_by P (Some x) xs here rest = here

first_of : {X Y : Type 0} (P : Y → Type 0) (h : X → Option Y) → ((x : X) → IfSome (h x) P) →
    (xs : List X) → IfSome (slice_get (filter_map h xs) 0) P
first_of P h each [] = tt
first_of P h each (x ∷ xs) = first_by P (h x) (filter_map h xs) (each x) (first_of P h each xs)

first_value_of_words : (words : List Found) → IfSome (first_value_fault words) IsOfWords
unfolding first_value_fault
first_value_of_words words =
    first_of IsOfWords (row_fault words) (λ row. value_of_words (place_of row.name) row.form
    (value words row.name)) option_rows

or_of_words : {X : Type 0} (P : X → Type 0) (a b : Option X) → IfSome a P → IfSome b P →
    IfSome (option_or a b) P
or_of_words P None b h k = k
or_of_words P (Some x) b h k = h

both_ways_of_words : (place : ℕ) (t : Bool) → IfSome (cond t (Some (fault.BothWays place)) None)
    IsOfWords
both_ways_of_words place true = λ e. cc
both_ways_of_words place false = tt

alone_of_words : (place : ℕ) (t : Bool) → IfSome (cond t (Some (fault.ProxyAlone place)) None)
    IsOfWords
alone_of_words place true = λ e. cc
alone_of_words place false = tt

fault_of_words : (words : List Found) → IfSome (first_fault words) IsOfWords
unfolding first_fault
fault_of_words words =
    or_of_words IsOfWords _ _ (or_of_words IsOfWords _ _
    (or_of_words IsOfWords _ _ (or_of_words IsOfWords _ _ (first_value_of_words words)
    (both_ways_of_words _ _)) (both_ways_of_words _ _)) (alone_of_words _ _)) (alone_of_words _ _)

-- ---- commands

-- a command keeps the ranges, and a fault is one of the words
abbrev IsSound : Result Command UsageFault → Type 0
IsSound r = MatchResult r KeepsRanges IsOfWords

abbrev IsFaultOfWords : Result AppName UsageFault → Type 0
IsFaultOfWords r = MatchResult r (λ _. Unit {0}) IsOfWords

named_sound : (make : List ℕ → AppName) (v : Option (List ℕ)) → IsFaultOfWords (named_by make v)
named_sound make None = λ e. cc
named_sound make (Some name) = tt

echo_sound : (t : Bool) → IsFaultOfWords (cond t (Err fault.Operands) (Ok Echo))
echo_sound true = λ e. cc
echo_sound false = tt

application_sound : (echo table dir : Bool) (v : Option (List ℕ)) →
    IsFaultOfWords (cond echo (cond (is_some v) (Err fault.Operands) (Ok Echo))
    (cond table (named_by (λ file. Table file) (operand v))
    (cond dir (named_by (λ root. Dir root) (operand v)) (Err fault.BadApplication))))
application_sound true table dir v = echo_sound (is_some v)
application_sound false true dir v = named_sound (λ file. Table file) (operand v)
application_sound false false true v = named_sound (λ root. Dir root) (operand v)
application_sound false false false v = λ e. cc

app_sound : (app arg : Option (List ℕ)) → IsFaultOfWords
    (option_map_or (λ name. application name arg) app (Err fault.NoApplication))
app_sound None arg = λ e. cc
app_sound (Some name) arg =
    application_sound (bytes_eq name (codes "echo")) (bytes_eq name (codes "table"))
    (bytes_eq name (codes "dir")) arg

served_sound : (words : List Found) (app : Result AppName UsageFault) →
    first_value_fault words ≡ None → IsFaultOfWords app → IsSound (served words app)
served_sound words (Err f) none h = h
served_sound words (Ok app) none h = in_range words none

asked_by : (words : List Found) (check rehearse : Bool) → first_value_fault words ≡ None →
    is_given words (codes "rehearse") ≡ rehearse →
    IsSound (cond check (Ok (Check (adjustments_of words)))
    (cond rehearse (Ok (Rehearse (number_at words (codes "rehearse"))))
    (served words (application_of words))))
asked_by words true rehearse none given = in_range words none
asked_by words false true none given = rehearsed words none given
asked_by words false false none given =
    served_sound words (application_of words) none (app_sound (value words (codes "APP"))
    (value words (codes "ARG")))

asked_sound : (words : List Found) → first_value_fault words ≡ None → IsSound (asked words)
unfolding asked
asked_sound words none = asked_by words (is_on words (codes "check"))
    (is_given words (codes "rehearse")) none refl

decided_by : (words : List Found) (help : Bool) (f : Option UsageFault) → first_fault words ≡ f →
    IfSome f IsOfWords →
    IsSound (cond help (Ok Help) (option_map_or (λ f. Err f) f (asked words)))
decided_by words true f is h = tt
decided_by words false None is h = asked_sound words (first_none words is)
decided_by words false (Some f) is h = h

decided_sound : (words : List Found) → IsSound (decided words)
unfolding decided
decided_sound words = decided_by words (is_on words (codes "help")) (first_fault words) refl
    (fault_of_words words)

taken_sound : (words : List (List ℕ)) (t : Bool) → IsSound
    (cond t (decided (given words)) (Err fault.Words))
taken_sound words true = decided_sound (given words)
taken_sound words false = λ e. cc

command_sound : (words : List (List ℕ)) → IsSound (command words)
unfolding command
command_sound words = taken_sound words (are_taken words)

ok_of : (r : Result Command UsageFault) → IsSound r → IfOk r KeepsRanges
ok_of (Ok c) h = h
ok_of (Err f) h = tt

err_of : (r : Result Command UsageFault) → IsSound r → r ≢ Err fault.NoMemory
err_of (Ok c) h e = cc
err_of (Err f) h e = h (cc)

pub command_ranges : (words : List (List ℕ)) → IfOk (command words) KeepsRanges
command_ranges words = ok_of (command words) (command_sound words)

pub command_no_memory : (words : List (List ℕ)) → command words ≢ Err fault.NoMemory
command_no_memory words = err_of (command words) (command_sound words)
