-- What `clap` makes of the words: each option is a long one, with a value or as a flag, and two
-- operands may stand beside them.
use Rattle.std.specs.Prelude.{ℕ, Bool, true, List, [], ◌∷◌, ◌++◌, map, codes, Some, String}
use Rattle.std.specs.String.{string_bytes}
use Rattle.clap.specs.Words.{App, Row as Found, Rule, fault_of, matches_of, new_rule}
use Rattle.clap.specs.Simple.{new_shape}
use Rattle.clap.specs.Walk.{is_empty}
use Rattle.clap.specs.declared.builder.action.ArgAction.{ArgAction}
use Rattle.clap.specs.declared.builder.action.ArgAction.TheVariants.{Set, SetTrue}
use Rattle.adjust.specs.declared.options.Form.{Form}
use Rattle.adjust.specs.declared.options.Form.TheVariants.{Flag}
use Rattle.adjust.specs.Options.{Row, option_rows}

-- words as bytes
abbrev pub words_of : {Z : Type 0} → List (String Z) → List (List ℕ)
words_of words = map string_bytes words

-- an option is used once, with one value or with none
abbrev pub action_for : Form → ArgAction
action_for Flag = SetTrue
action_for _ = Set

abbrev pub option_rule : Row → Rule
option_rule row =
    record (new_rule row.name) { long = Some row.name; action = Some (action_for row.form) }

abbrev pub operand_rule : List ℕ → Rule
operand_rule name = record (new_rule name) { action = Some Set }

abbrev pub rules : List Rule
rules = map option_rule option_rows ++ operand_rule (codes "APP") ∷ operand_rule (codes "ARG") ∷ []

-- a command without a help of its own, of which all words are arguments
abbrev pub command_with : List Rule → App
command_with rules = record {
  top = record (new_shape (codes "waitress-serve")) {
    rules = rules;
    no_binary_name = true;
    disable_help_flag = true;
  };
  subs = [];
}

unfoldable pub command_line : App
command_line = command_with rules

-- Whether the command line has a place for each of the words. It has none for an option that is no
-- row of the table or stands twice, for a value given to a flag, for an option at the end that
-- waits for its value, for a value that begins with `-` and has more bytes, unless it stands behind
-- `=`, and for a third operand. A word without bytes is an operand or a value, and behind `--`
-- every word is an operand.
unfoldable pub are_taken : List (List ℕ) → Bool
are_taken words = is_empty (fault_of command_line words)

-- what the words give, by the names of options and operands
unfoldable pub given : List (List ℕ) → List Found
given words = matches_of command_line words
