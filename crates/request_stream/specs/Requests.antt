-- A request as contracts see it, and how a proof tells two of them apart.
use Rattle.std.specs.Prelude.{◌≡◌, ℕ, Bool, true, false, List, Option, Some, None, length, refl}
use Rattle.std.specs.Coded.{Coded, code_by, coded×, coded_ℕ, coded_bool, coded_list, coded_option}
use Rattle.head_grammar.specs.Heads.{Head}
use Rattle.head_grammar.specs.declared.types.Field.{Field}
use Rattle.head_grammar.specs.declared.types.Framing.{Framing}
use Rattle.head_grammar.specs.declared.types.Framing.TheVariants.{Empty, Fixed, Chunked}
use Rattle.head_grammar.specs.declared.types.Version.{Version}
use Rattle.head_grammar.specs.declared.types.Version.TheVariants.{Old, New}
use Rattle.spill_buffer.specs.Buffer.{Buffered, buffered_coded}

pub record ARequest (S : Type 0) : Type 0 where
  pub head : Head
  -- how many bytes the body has
  pub length : ℕ
  pub body : Buffered S
  pub moment : ℕ

-- the body has so many bytes
abbrev pub HasLength : {S : Type 0} → ℕ → Buffered S → Type 0
HasLength n body = n ≡ length body.bytes

abbrev is_new : Version → Bool
is_new Old = false
is_new New = true

abbrev version_by : Bool → Version
version_by false = Old
version_by true = New

pub version_is : (v : Version) → version_by (is_new v) ≡ v
version_is Old = refl
version_is New = refl

abbrev length_in : Framing → Option (Option ℕ)
length_in Empty = None
length_in (Fixed n) = Some (Some n)
length_in Chunked = Some None

abbrev framing_by : Option (Option ℕ) → Framing
framing_by None = Empty
framing_by (Some (Some n)) = Fixed n
framing_by (Some None) = Chunked

pub framing_is : (f : Framing) → framing_by (length_in f) ≡ f
framing_is Empty = refl
framing_is (Fixed n) = refl
framing_is Chunked = refl

abbrev bytes_coded : Coded (List ℕ)
bytes_coded = coded_list coded_ℕ

abbrev version_coded : Coded Version
version_coded = code_by Bool coded_bool is_new version_by version_is

abbrev framing_coded : Coded Framing
framing_coded =
    code_by (Option (Option ℕ)) (coded_option (coded_option coded_ℕ)) length_in
    framing_by framing_is

abbrev field_coded : Coded Field
field_coded = code_by (List ℕ × List ℕ) (coded× bytes_coded bytes_coded)
    (λ f. (f.name, f.value)) (λ p. record { name = p.0; value = p.1 }) (λ _. refl)

abbrev HeadParts : Type 0
HeadParts = (List ℕ × (List ℕ × (List ℕ × List ℕ)))
    × ((Version × (List Field × Framing)) × (Bool × (Bool × ℕ)))

abbrev head_coded : Coded Head
head_coded = code_by HeadParts
    (coded× (coded× bytes_coded (coded× bytes_coded (coded× bytes_coded bytes_coded)))
    (coded× (coded× version_coded (coded× (coded_list field_coded) framing_coded))
    (coded× coded_bool (coded× coded_bool coded_ℕ))))
    (λ h. (
      (h.method, (h.target, (h.path, h.query))),
      ((h.version, (h.fields, h.framing)), (h.expects, (h.closes, h.size))),
    ))
    (λ p. record {
      method = p.0.0;
      target = p.0.1.0;
      path = p.0.1.1.0;
      query = p.0.1.1.1;
      version = p.1.0.0;
      fields = p.1.0.1.0;
      framing = p.1.0.1.1;
      expects = p.1.1.0;
      closes = p.1.1.1.0;
      size = p.1.1.1.1;
    })
    (λ _. refl)

abbrev pub request_coded : {S : Type 0} → Coded S → Coded (ARequest S)
request_coded {S} spill = code_by (Head × (ℕ × (Buffered S × ℕ)))
    (coded× head_coded (coded× coded_ℕ (coded× (buffered_coded spill) coded_ℕ)))
    (λ r. (r.head, (r.length, (r.body, r.moment))))
    (λ p. record { head = p.0; length = p.1.0; body = p.1.1.0; moment = p.1.1.1 })
    (λ _. refl)
