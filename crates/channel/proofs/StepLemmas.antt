-- What a step of the answering side is to those who see a channel's numbers alone.
use Rattle.std.proofs.Common.{◌≡◌, Bool, true, false, []}
use Rattle.std.proofs.Common.{◌++◌, Option, Some, None, refl, sym, ap, ◌∙◌}
use Rattle.std.proofs.Common.{append-nil}
use Rattle.std.specs.Prelude.{is_some, map, option_to_list}
use Rattle.std.specs.List.{list_any}
use Rattle.request_stream.specs.Asks.{asks}
use Rattle.request_stream.specs.Units.{closing}
use Rattle.channel.specs.Agreement.{Agrees, Known}
use Rattle.channel.specs.Histories.{Current, LeftPast, RightPast}
use Rattle.channel.specs.Histories.{unit_of}
use Rattle.channel.specs.State.{State}

no_unit : {S : Type 0} (o : Option (Current S)) → is_some o ≡ false → map unit_of (option_to_list o)
    ≡ []
no_unit None e = refl
no_unit (Some c) e = cc

-- Where nothing is ready or current and a unit was put that closes, the channel closes.
pub closing_by_units : {A R S : Type 0} (known : Known A R S) (s : State A R S) (l : LeftPast S)
    (r : RightPast S) → Agrees known s l r → (list_any closing (map asks r.finished) ≡ true →
    r.closed ≡ true) →
    s.ready ≡ [] → s.current ≡ false → list_any closing (map asks l.put) ≡ true → s.closing ≡ true
closing_by_units known s l r was shut none idle put =
    by s.closing was.order.going was.course.closing_is
  where
    began : r.began ≡ r.finished
    began = was.course.began_is ∙ (ap (λ us. r.finished ++ us)
        (no_unit r.current (sym was.course.current_is ∙ idle)) ∙ append-nil r.finished)

    by : (b : Bool) → (b ≡ false → l.put ≡ r.began ++ s.ready) → b ≡ r.closed → b ≡ true
    by true going is = refl
    by false going is =
        let all : l.put ≡ r.finished = going refl ∙ (ap (λ us. r.began ++ us) none
        ∙ (append-nil r.began ∙ began)) in
        is ∙ shut (ap (λ us. list_any closing (map asks us)) (sym all) ∙ put)
