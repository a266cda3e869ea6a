use Rattle.poll_loop.proofs.Books.{accounts_refl}
use Rattle.poll_loop.proofs.accepting.accept_if.Goals as goal

pub returns-then-not-come-clause-accounts : goal.returns-then-not-come-clause-accounts
returns-then-not-come-clause-accounts g c told = accounts_refl _ _ _
