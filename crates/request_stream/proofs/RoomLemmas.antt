-- What is held and what is given.
use Rattle.std.proofs.Common.{◌≡◌, ◌+◌, ℕ, List, [], ◌∷◌, ◌++◌, arith}
use Rattle.request_stream.specs.Asks.{size_of, sizes}
use Rattle.request_stream.specs.Room.{Holds}
use Rattle.request_stream.specs.declared.state.State.{State}
use Rattle.request_stream.specs.declared.types.Unit.{Unit as AUnit}

pub sizes-append : {S : Type 0} (us vs : List (AUnit S)) → sizes (us ++ vs) ≡ sizes us + sizes vs
sizes-append [] vs = let e : sizes vs ≡ 0 + sizes vs = omega arith in e
sizes-append (u ∷ us) vs = let ih = sizes-append us vs in let e : size_of u + sizes (us ++ vs)
    ≡ size_of u + sizes us + sizes vs = omega arith in e

pub sizes-push : {S : Type 0} (us : List (AUnit S)) (u : AUnit S) → sizes (us ++ u ∷ [])
    ≡ sizes us + size_of u
sizes-push us u = let a = sizes-append us (u ∷ []) in omega arith

pub holds_trans : {S : Type 0} (old mid new : State S) (i j : ℕ) (us vs ws : List (AUnit S)) →
    Holds old mid i us vs → Holds mid new j vs ws → Holds old new (i + j) us ws
holds_trans old mid new i j us vs ws a b = let x = a.most in let y = b.most in
    record { most = omega arith }
