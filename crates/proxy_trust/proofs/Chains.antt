-- A chain of readings: the first malformed header is the one that is answered.
use Rattle.std.proofs.Common.{◌≡◌, ℕ, List, sym, subst}
use Rattle.std.specs.Prelude.{Option, Result, Ok, Err}
use Rattle.outside.specs.declared.types.Kind.{Kind}
use Rattle.proxy_trust.specs.Answers.{Answers}
use Rattle.proxy_trust.specs.Trust.{◌>>=◌, read}
use Rattle.proxy_trust.specs.declared.types.ProxyFault.{ProxyFault}
use Rattle.proxy_trust.specs.declared.types.ProxyFault.TheVariants.{Malformed, NoMemory}

at_fault : {A B : Type 0} (fault : ProxyFault) (r : Result A Kind) (rest : A → Result B Kind) →
    Answers {A = A} (Err fault) r → Answers {A = B} (Err fault) (r >>= rest)
at_fault NoMemory r rest h = tt
at_fault (Malformed kind) (Err other) rest h = cc
at_fault (Malformed kind) (Ok a) rest h = cc

-- a fault of the first reading, of a value that is known behind a reference
pub fault_first : {A B : Type 0} (kind : Kind) (form : List ℕ → Option A)
    (rest : Option A → Result B Kind) (result : Result B ProxyFault) (fault : ProxyFault)
    (seen value : Option (List ℕ)) →
    result ≡ Err fault → seen ≡ value → Answers {A = Option A} (Err fault) (read kind form seen) →
    Answers result (read kind form value >>= rest)
fault_first {A} {B} kind form rest result fault seen value is e h =
    subst (λ r. Answers r (read kind form value >>= rest)) (sym is)
    (at_fault fault (read kind form value) rest (subst (λ v.
    Answers {A = Option A} (Err fault) (read kind form v)) e h))

-- what a value says, by the same value behind a reference
said : {A : Type 0} (kind : Kind) (form : List ℕ → Option A) (a : Option A)
    (seen value : Option (List ℕ)) → seen ≡ value → read kind form seen ≡ Ok a →
    Ok a ≡ read kind form value
said kind form a seen value e is = sym (subst (λ v. read kind form v ≡ Ok a) e is)

-- what is answered behind it
pub fault_behind : {A B : Type 0} (kind : Kind) (form : List ℕ → Option A)
    (rest : Option A → Result B Kind) (result : Result B ProxyFault) (a : Option A)
    (seen value : Option (List ℕ)) →
    seen ≡ value → read kind form seen ≡ Ok a → Answers result (rest a) →
    Answers result (read kind form value >>= rest)
fault_behind kind form rest result a seen value e is h =
    subst (λ r. Answers result (r >>= rest)) (said kind form a seen value e is) h

pub value_behind : {A B : Type 0} (kind : Kind) (form : List ℕ → Option A)
    (rest : Option A → Result B Kind) (all : Result B Kind) (a : Option A)
    (seen value : Option (List ℕ)) →
    seen ≡ value → read kind form seen ≡ Ok a → rest a ≡ all → (read kind form value >>= rest) ≡ all
value_behind kind form rest all a seen value e is h = subst (λ r. (r >>= rest) ≡ all)
    (said kind form a seen value e is) h
