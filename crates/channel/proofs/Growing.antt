-- The answers to a longer input begin with those to a shorter one.
use Rattle.std.proofs.Common.{◌≡◌, Bool, true, false, List, [], ◌++◌, refl, ap, sym, ◌∙◌}
use Rattle.std.proofs.Common.{append-nil}
use Rattle.std.proofs.lemmas.List.{map-append}
use Rattle.channel.proofs.Headline.{joined-closed}
use Rattle.channel.proofs.Texts.{joined-append}
use Rattle.channel.specs.Output.{Input, IsPrefix, Script, answer_for, answers_for, has_closed}
use Rattle.channel.specs.Output.{joined, responses}
use Rattle.outside.specs.declared.types.Peer.{Peer}
use Rattle.request_stream.specs.Units.{Asked, units}
use Rattle.request_stream.specs.declared.types.Limits.{Limits}
use Rattle.wsgi.specs.declared.site.Site.{Site}

module _ (limits : Limits) (site : Site) (script : Script) (peer : Peer) (x y : Input)
    (more : List Asked)
    (grown : units limits (x ++ y) ≡ units limits x ++ more) where
  answers_grow : answers_for site script peer (units limits (x ++ y))
      ≡ answers_for site script peer (units limits x) ++ answers_for site script peer more
  answers_grow = ap (answers_for site script peer) grown
      ∙ map-append (answer_for site script peer) (units limits x) more

  front_by : (b : Bool) → has_closed limits site script peer x ≡ b →
      IsPrefix (responses limits site script peer x) (responses limits site script peer (x ++ y))
  unfolding responses has_closed
  front_by true closed = record {
    rest = [];
    whole = ap joined answers_grow ∙ (joined-closed (answers_for site script peer (units limits x))
        (answers_for site script peer more) closed
        ∙ sym (append-nil (responses limits site script peer x)));
  }
  front_by false closed = record {
    rest = joined (answers_for site script peer more);
    whole = ap joined answers_grow ∙ joined-append (answers_for site script peer (units limits x))
        (answers_for site script peer more) closed;
  }

  pub responses_front : IsPrefix (responses limits site script peer x)
      (responses limits site script peer (x ++ y))
  responses_front = front_by (has_closed limits site script peer x) refl
