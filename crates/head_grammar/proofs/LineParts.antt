-- Four texts, one behind the other, and where each ends.
use Rattle.std.proofs.Common.{◌≡◌, ◌+◌, ◌-◌, ℕ, List, ◌++◌, length, take, drop}
use Rattle.std.proofs.Common.{ap, ◌∙◌, arith}
use Rattle.std.proofs.lemmas.List.{append_assoc, length-append}
use Rattle.std.proofs.Math.Seq.{take-append_seam, drop-append_seam}
use Rattle.head_grammar.specs.Heads.{RequestLine}
use Rattle.head_grammar.specs.declared.types.Version.{Version}

-- what stands between the ends of two fronts of a text
between : (front part rest text : List ℕ) (start stop : ℕ) → text ≡ front ++ (part ++ rest) →
    start ≡ length front → stop ≡ length front + length part →
    take (stop - start) (drop start text) ≡ part
between front part rest text start stop e p q =
    let size : stop - start ≡ length part = omega arith in
    ap (λ n. take n (drop start text)) size ∙
    (ap (λ n. take (length part) (drop n text)) p ∙
    (ap (λ t. take (length part) (drop (length front) t)) e ∙
    (ap (take (length part)) (drop-append_seam front (part ++ rest)) ∙
    take-append_seam part rest)))

last_of : (front rest text : List ℕ) (stop : ℕ) → text ≡ front ++ rest → stop ≡ length front →
    drop stop text ≡ rest
last_of front rest text stop e p =
    ap (λ n. drop n text) p ∙ (ap (drop (length front)) e ∙ drop-append_seam front rest)

first_of : (front rest text : List ℕ) (stop : ℕ) → text ≡ front ++ rest → stop ≡ length front →
    take stop text ≡ front
first_of front rest text stop e p =
    ap (λ n. take n text) p ∙ (ap (take (length front)) e ∙ take-append_seam front rest)

abbrev pub line : List ℕ → List ℕ → List ℕ → List ℕ → Version → RequestLine
line method target path query version = record {
  method = method;
  target = target;
  path = path;
  query = query;
  version = version;
}

same_line : (version : Version) {method method' target target' path path' query query' : List ℕ} →
    method ≡ method' → target ≡ target' → path ≡ path' → query ≡ query' →
    line method target path query version ≡ line method' target' path' query' version
same_line version {method' = m} {target = t} {target' = t'} {path = p} {path' = p'} {query = q}
    a b c d =
    ap (λ x. line x t p q version) a ∙ (ap (λ x. line m x p q version) b ∙
    (ap (λ x. line m t' x q version) c ∙ ap (λ x. line m t' p' x version) d))

-- a text of four parts, as they were added
pub line_is : (version : Version) (method target path query first second third text : List ℕ)
    (method_end target_end path_end : ℕ) →
    first ≡ method → second ≡ first ++ target → third ≡ second ++ path → text ≡ third ++ query →
    method_end ≡ length first → target_end ≡ length second → path_end ≡ length third →
    line (take method_end text) (take (target_end - method_end) (drop method_end text))
    (take (path_end - target_end) (drop target_end text)) (drop path_end text) version
    ≡ line method target path query version
line_is version method target path query first second third text method_end target_end path_end
    a b c d k m n =
    let whole = d ∙ ap (λ t. t ++ query) c ∙ append_assoc second path query in
    let others = path ++ query in
    let behind = whole ∙ ap (λ t. t ++ others) b ∙ append_assoc first target others in
    let size = ap length b ∙ length-append first target in
    let more = ap length c ∙ length-append second path in
    same_line version
    (first_of first (target ++ (path ++ query)) text method_end behind k ∙ a)
    (between first target (path ++ query) text method_end target_end behind k (m ∙ size))
    (between second path query text target_end path_end whole m (n ∙ more))
    (last_of third query text path_end d n)
