-- The command that the options make one after the other, and what clap says of it.
use Rattle.std.proofs.Common.{◌≡◌, ◌∙◌, ◌<◌, ◌+◌, ℕ, true, false, List, [], ◌∷◌, ◌++◌, length, map}
use Rattle.std.proofs.Common.{take, get_or, refl, ap, sym, add-one, append_assoc, rules, codes}
use Rattle.std.proofs.Math.Seq.{take-length, take-suc}
use Rattle.std.proofs.lemmas.List.{map-append}
use Rattle.clap.specs.Words.{App, IsAmong, Kinds, Row as Found, Rule, Text, fault_of, is_simple}
use Rattle.clap.specs.Words.{is_simple_and_free, matches_of}
use Rattle.clap.specs.Walk.{is_empty}
use Rattle.clap.specs.declared.error.kind.ErrorKind.{ErrorKind}
use Rattle.clap.proofs.OnLiterals.{clap_on_literals}
use Rattle.adjust.specs.declared.options.OptionRow.{OptionRow}
use Rattle.adjust.specs.CommandLine.{are_taken, command_line, command_with, given, operand_rule}
use Rattle.adjust.specs.CommandLine.{option_rule}
use Rattle.adjust.specs.Options.{option_rows, row_of}

abbrev pub rules_so_far : List OptionRow → ℕ → List Rule
rules_so_far options i = map option_rule (map row_of (take i options))

pub one_more : (options : List OptionRow) (i : ℕ) (d : OptionRow) → i < length options →
    rules_so_far options i ++ option_rule (row_of (get_or options i d)) ∷ [] ≡ rules_so_far options
    (i + 1)
one_more options i d within =
    sym (ap (rules_so_far options) (add-one i)
    ∙ ap (λ xs. map option_rule (map row_of xs)) (take-suc options i d within)
    ∙ ap (map option_rule) (map-append row_of (take i options) (get_or options i d ∷ []))
    ∙ map-append option_rule (map row_of (take i options)) (row_of (get_or options i d) ∷ []))

-- behind all options come the two operands
pub whole_line : (options : List OptionRow) (i : ℕ) → i ≡ length options →
    map row_of options ≡ option_rows →
    command_with ((rules_so_far options i ++ operand_rule (codes "APP") ∷ []) ++ operand_rule
    (codes "ARG") ∷ []) ≡ command_line
unfolding command_line
whole_line options i whole known =
    ap command_with (append_assoc (rules_so_far options i) _ _
    ∙ ap (λ xs. xs ++ operand_rule (codes "APP") ∷ operand_rule (codes "ARG") ∷ [])
    (ap (rules_so_far options) whole
    ∙ ap (λ xs. map option_rule (map row_of xs)) (take-length options)
    ∙ ap (map option_rule) known))

pub is_exact : is_simple_and_free command_line ≡ true
unfolding clap_on_literals command_line option_rows
is_exact = refl

pub is_simple_line : is_simple command_line ≡ true
unfolding clap_on_literals command_line option_rows
is_simple_line = refl

pub taken : (a : App) (words : List Text) → a ≡ command_line → fault_of a words ≡ [] →
    are_taken words ≡ true
unfolding are_taken
taken a words e none = ap is_empty (ap (λ b. fault_of b words) (sym e) ∙ none)

among_some : (k : ErrorKind) (ks : Kinds) → IsAmong k ks → is_empty ks ≡ false
among_some k [] h = absurd h
among_some k (x ∷ xs) h = search rules

pub refused : (a : App) (words : List Text) (k : ErrorKind) → a ≡ command_line →
    IsAmong k (fault_of a words) → are_taken words ≡ false
unfolding are_taken
refused a words k e h = ap (λ b. is_empty (fault_of b words)) (sym e) ∙
    among_some k (fault_of a words) h

pub as_given : (a : App) (words : List Text) (rows : List Found) → a ≡ command_line →
    rows ≡ matches_of a words → rows ≡ given words
unfolding given
as_given a words rows e h = h ∙ ap (λ b. matches_of b words) e
