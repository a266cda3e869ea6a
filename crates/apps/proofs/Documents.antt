-- A document in UTF-8.
use Rattle.std.proofs.Common.{◌≡◌, ◌<◌, ℕ, List, [], ◌∷◌, length, string_bytes, arith, Some, None}
use Rattle.std.proofs.Common.{inl, inr}
use Rattle.std.proofs.lemmas.Bool.{cases_Bool}
use Rattle.std.proofs.lemmas.Str.{IsUtf8-from_is_utf8, is_utf8-from_IsUtf8}
use Rattle.std.specs.Prelude.{IsUtf8}
use Rattle.std.specs.Str.{is_utf8}
use Rattle.toml.specs.Data.{Members, no_members, member}
use Rattle.toml.specs.View.{view, members_view}
use Rattle.toml.proofs.Views.{Entry}
use Rattle.toml.specs.Parse.{parse_document}
use Rattle.apps.specs.Table.{document, tables_of}

pub document_read : (bytes : List ℕ) (ms : Members) → IsUtf8 bytes →
    parse_document bytes ≡ Some ms → document bytes ≡ Some ms
document_read bytes ms valid read = rw (is_utf8-from_IsUtf8 bytes valid, read)

pub document_refused : (bytes : List ℕ) → (IsUtf8 bytes → parse_document bytes ≡ None) →
    document bytes ≡ None
document_refused bytes refused = elim (cases_Bool (is_utf8 bytes)) [
  | inl valid ↦ rw (valid, refused (IsUtf8-from_is_utf8 bytes valid))
  | inr other ↦ rw other
]

-- one key alone
pub one_key : (e : Entry) (left es : List Entry) → es ≡ e ∷ left → length left ≡ 0 →
    members_view es ≡ member (string_bytes e.0) (view e.1) no_members
one_key e [] es all alone = rw all
one_key e (x ∷ left) es all alone = absurd (omega (arith, alone))

-- a key with others behind it
pub more_keys : (e : Entry) (left es : List Entry) → es ≡ e ∷ left → 0 < length left →
    tables_of (members_view es) ≡ None
more_keys e [] es all more = absurd (omega (arith, more))
more_keys e (x ∷ left) es all more = rw all
