-- The head of a response, from the lines that were added one behind the other.
use Rattle.std.proofs.Common.{◌≡◌, ℕ, List, [], ◌∷◌, ◌++◌, map, refl, ap, ◌∙◌, append_assoc}
use Rattle.std.specs.Prelude.{codes, filter, not}
use Rattle.head_grammar.specs.declared.types.Field.{Field}
use Rattle.task_core.specs.Answer.{connection_fields, framing_fields, given_fields, origin_field}
use Rattle.task_core.specs.Answer.{own_date_fields, own_fields, response_head}
use Rattle.task_core.specs.ResponseHead.{head_text, recased_field, sorted_by_name, trimmed_field}
use Rattle.task_core.specs.ResponseHead.{written}
use Rattle.task_core.specs.Starts.{is_named}
use Rattle.task_core.specs.declared.layout.Layout.{Layout}
use Rattle.task_core.specs.declared.task.Request.{Request}

written_is : (fields : List Field) → map trimmed_field (map recased_field fields) ≡ map written
    fields
written_is [] = refl
written_is (field ∷ fields) = ap (λ fs. written field ∷ fs) (written_is fields)

joined : (g f c o d t0 t1 t2 t3 t4 t5 : List Field) → t0 ≡ [] → t1 ≡ t0 ++ g → t2 ≡ t1 ++ f →
    t3 ≡ t2 ++ c →
    t4 ≡ t3 ++ o → t5 ≡ t4 ++ d → t5 ≡ g ++ (f ++ c ++ (o ++ d))
joined g f c o d t0 t1 t2 t3 t4 t5 e0 e1 e2 e3 e4 e5 = rw (e5, e4, e3, e2, e1, e0)
    (simp append_assoc)

pub head_lines : (request : Request) (status : List ℕ) (fields : List Field) (layout : Layout)
    (kept f c d t0 t1 t2 t3 t4 t5 sorted : List Field) (o : Field) (text : List ℕ) →
    kept ≡ map recased_field (filter (λ field. not (is_named (codes "content-length") field))
    fields) →
    f ≡ framing_fields layout → c ≡ connection_fields request layout →
    o ≡ origin_field request.ident fields →
    d ≡ own_date_fields request.moment fields → t0 ≡ [] → t1 ≡ t0 ++ map trimmed_field kept →
    t2 ≡ t1 ++ f →
    t3 ≡ t2 ++ c → t4 ≡ t3 ++ o ∷ [] → t5 ≡ t4 ++ d → sorted ≡ sorted_by_name t5 →
    text ≡ head_text request.version status sorted → text ≡ response_head request (status, fields)
    layout
unfolding response_head
head_lines request status fields layout kept f c d t0 t1 t2 t3 t4 t5 sorted o text k ef ec eo ed e0
    e1 e2 e3 e4 e5 es et =
    let given = ap (map trimmed_field) k
    ∙ written_is (filter (λ field. not (is_named (codes "content-length") field)) fields) in
    let all = joined (map trimmed_field kept) f c (o ∷ []) d t0 t1 t2 t3 t4 t5 e0 e1 e2 e3 e4 e5 in
    let own = ap (λ l. l ++ c ++ o ∷ d) ef
    ∙ (ap (λ l. framing_fields layout ++ l ++ o ∷ d) ec
    ∙ (ap (λ l. framing_fields layout ++ connection_fields request layout ++ l ∷ d) eo
    ∙ ap (λ l. framing_fields layout ++ connection_fields request layout ++ origin_field
    request.ident fields ∷ l) ed)) in
    let whole : t5 ≡ given_fields fields ++ own_fields request fields layout =
    all ∙ (ap (λ l. l ++ (f ++ c ++ o ∷ d)) given ∙ ap (λ l. given_fields fields ++ l) own) in
    et ∙ ap (head_text request.version status) (es ∙ ap sorted_by_name whole)
