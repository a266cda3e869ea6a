-- A text of the current unit is written.
use Rattle.std.proofs.Common.{◌≡◌, ◌≤◌, ◌+◌, ℕ, Bool, true, false, IsTrue, List, [], ◌∷◌, ◌++◌}
use Rattle.std.proofs.Common.{length, take, Option, Some, None, refl, sym, ap, subst, ◌∙◌, arith}
use Rattle.std.proofs.Common.{append_assoc, append-nil, cond}
use Rattle.std.specs.Prelude.{◌||◌, is_some, is_none, max, map, option_to_list, option_map}
use Rattle.std.specs.List.{list_any}
use Rattle.std.specs.Option.{ForSome}
use Rattle.std.proofs.lemmas.List.{map-append, length-append}
use Rattle.std.proofs.lemmas.List.Folds.{list_any-append}
use Rattle.std.proofs.Math.Nat.{le-max_right}
use Rattle.std.proofs.Math.Seq.{take-append_seam}
use Rattle.outside.specs.declared.types.Peer.{Peer}
use Rattle.request_stream.specs.Asks.{asks}
use Rattle.request_stream.specs.Units.{closing}
use Rattle.spill_buffer.specs.Buffer.{Buffered, IsToldAs}
use Rattle.task_core.specs.Answer.{Answer}
use Rattle.wsgi.specs.declared.site.Site.{Site}
use Rattle.channel.specs.Acting.{closing_by, goes_on, ready_by}
use Rattle.channel.specs.Agreement.{Agrees, InOrder, KeepsBytes, KeepsCounts, Known, WritesTexts}
use Rattle.channel.specs.Histories.{Current, LeftPast, RightPast, finished_by, is_empty_part}
use Rattle.channel.specs.Histories.{right_by, unit_of, with_text, written_of}
use Rattle.channel.specs.Output.{Script, any_closes, answer_for, answers_for, joined}
use Rattle.channel.specs.State.{State}
use Rattle.channel.specs.Writing.{GoesBy}
use Rattle.channel.specs.declared.acts.RightAct.TheVariants.{Wrote}
use Rattle.channel.specs.declared.types.Cause.{Cause}
use Rattle.channel.proofs.ActLemmas.{lives, none_broke, same}

neither : (a b : Bool) → (a || b) ≡ false → (a ≡ false) × (b ≡ false)
neither true b e = cc
neither false b e = (refl, e)

-- behind answers none of which closes the others follow
pub joined-append : (xs ys : List Answer) → any_closes xs ≡ false → joined (xs ++ ys)
    ≡ joined xs ++ joined ys
unfolding joined
joined-append [] ys none = refl
joined-append (x ∷ xs) ys none =
    let ends = neither x.closes (any_closes xs) none in
    ap (λ b. cond b x.text (x.text ++ joined (xs ++ ys))) ends.0
    ∙ (ap (λ rest. x.text ++ rest) (joined-append xs ys ends.1)
    ∙ (sym (append_assoc x.text (joined xs) (joined ys))
    ∙ ap (λ b. cond b x.text (x.text ++ joined xs) ++ joined ys) (sym ends.0)))

pub joined-one : (a : Answer) → joined (a ∷ []) ≡ a.text
unfolding joined
joined-one a = by a.closes a.text
  where
    by : (b : Bool) (t : List ℕ) → cond b t (t ++ []) ≡ t
    by true t = refl
    by false t = append-nil t

or_false : (b : Bool) → (b || false) ≡ b
or_false true = refl
or_false false = refl

-- the current unit is there
pub the_current : {S : Type 0} (o : Option (Current S)) → true ≡ is_some o →
    (c : Current S) × (o ≡ Some c)
the_current None e = cc
the_current (Some c) e = (c, refl)

pub unclosed_by : {S : Type 0} (closed : Bool) (o : Option (Current S)) (c : Current S) →
    o ≡ Some c → (closed ≡ true → o ≡ None) → closed ≡ false
unclosed_by true o c is last = let no = sym is ∙ last refl in cc
unclosed_by false o c is last = refl

strict : {S : Type 0} (a : Bool) (o : Option (Current S)) (c : Current S) (k : Option Cause)
    (b : Bool) → a ≡ false → o ≡ Some c → k ≡ None → b ≡ false → (a || is_none o || is_some k || b)
    ≡ false
strict a o c k b ea eo ek eb =
    ap (λ x. x || is_none o || is_some k || b) ea ∙ (ap (λ x. false || is_none x || is_some k
    || b) eo ∙ (ap (λ x. false || false || is_some x || b) ek ∙ eb))

-- a text that doesn't end its unit
module _ {S : Type 0} (site : Site) (script : Script) (peer : Peer) (r : RightPast S)
    (c : Current S) (is : r.current ≡ Some c) (text : List ℕ)
    (was : WritesTexts site script peer r) where
  pub texts_on : GoesBy (answer_for site script peer (asks c.unit)) c.written text None →
      WritesTexts site script peer (right_by r (Wrote text None))
  texts_on goes = record {
    whole = ap (λ w. w ++ text) (was.whole ∙ ap (λ o. before ++ written_of o) is)
        ∙ (append_assoc before c.written text ∙ ap
        (λ o. before ++ written_of (option_map (with_text text) o)) (sym is));
    closes = was.closes;
    front = λ d e.
        let now : with_text text c ≡ d = same _ d (ap (λ o. option_map (with_text text) o) (sym is)
        ∙ e) in
        subst (λ (x : Current S). take (length x.written)
        (answer_for site script peer (asks x.unit)).text ≡ x.written) now goes;
  }
    where
      before : List ℕ
      before = joined (answers_for site script peer (map asks r.finished))

  pub texts_end : (closes : Bool) → r.closed ≡ false →
      GoesBy (answer_for site script peer (asks c.unit)) c.written text (Some closes) →
      WritesTexts site script peer (right_by r (Wrote text (Some closes)))
  texts_end closes open' goes =
      let a : Answer = answer_for site script peer (asks c.unit) in
      let finished : finished_by (Some closes) r.current r.finished ≡ r.finished ++ c.unit ∷ [] =
      ap (λ o. r.finished ++ map unit_of (option_to_list o)) is in
      let before : List Answer = answers_for site script peer (map asks r.finished) in
      let answers : answers_for site script peer (map asks
      (finished_by (Some closes) r.current r.finished)) ≡ before ++ a ∷ []
      = ap (λ us. answers_for site script peer (map asks us)) finished
      ∙ (ap (answers_for site script peer) (map-append asks r.finished (c.unit ∷ []))
      ∙ map-append (answer_for site script peer) (map asks r.finished) (asks c.unit ∷ [])) in
      let none : any_closes before ≡ false = was.closes ∙ open' in
      let one : joined (before ++ a ∷ []) ≡ joined before ++ (c.written ++ text) =
      joined-append before (a ∷ []) none ∙ ap (λ t. joined before ++ t) (joined-one a
      ∙ ap (λ (x : Answer). x.text) goes) in
      record {
        whole = ap (λ w. w ++ text) (was.whole ∙ ap (λ o. joined before ++ written_of o) is)
            ∙ (append_assoc (joined before) c.written text
            ∙ (sym one ∙ (ap joined (sym answers) ∙ sym (append-nil _))));
        closes = ap any_closes answers ∙ (list_any-append (λ (x : Answer). x.closes) before (a ∷ [])
            ∙ (ap (λ b. b || (a.closes || false)) none
            ∙ (or_false a.closes ∙ ap (λ (x : Answer). x.closes) goes)));
        front = λ d e. cc;
      }

-- behind the end of an answer: where something finished closes, it is this one
pub shut_end : {S : Type 0} (r : RightPast S) (c : Current S) (closes : Bool) → r.current ≡ Some c →
    r.closed ≡ false → (list_any closing (map asks r.finished) ≡ true → r.closed ≡ true) →
    (IsTrue (closing (asks c.unit)) → closes ≡ true) →
    list_any closing (map asks (finished_by (Some closes) r.current r.finished)) ≡ true →
    closes ≡ true
shut_end {S} r c closes is open' before last e = last (sym (or_false (closing (asks c.unit)))
    ∙ (ap (λ b. b || (closing (asks c.unit) || false)) (sym none) ∙ (sym split ∙ e)))
  where
    none_by : (b : Bool) → (b ≡ true → r.closed ≡ true) → b ≡ false
    none_by true h = let no : false ≡ true = sym open' ∙ h refl in cc
    none_by false h = refl

    none : list_any closing (map asks r.finished) ≡ false
    none = none_by (list_any closing (map asks r.finished)) before

    split : list_any closing (map asks (finished_by (Some closes) r.current r.finished))
        ≡ (list_any closing (map asks r.finished) || (closing (asks c.unit) || false))
    split = ap (λ o. list_any closing (map asks (r.finished ++ map unit_of (option_to_list o)))) is
        ∙ (ap (list_any closing) (map-append asks r.finished (c.unit ∷ []))
        ∙ list_any-append closing (map asks r.finished) (asks c.unit ∷ []))

module _ {A R S : Type 0} (known : Known A R S) (old : State A R S) (l : LeftPast S)
    (r : RightPast S) (before after : Buffered S) (text : List ℕ)
    (alive : old.dead ≡ None) (busy : old.current ≡ true) (had : old.output ≡ Some before)
    (told : IsToldAs known.spill_tells after.bytes (before.bytes ++ text))
    (below : length before.bytes ≤ old.fixed.value.window.high_watermark)
    (was : Agrees known old l r) where
  cur : (c : Current S) × (r.current ≡ Some c)
  cur = the_current r.current (sym busy ∙ was.course.current_is)

  open' : r.closed ≡ false
  open' = unclosed_by r.closed r.current cur.0 cur.1 was.course.last

  unclosed : old.closing ≡ false
  unclosed = was.course.closing_is ∙ open'

  abbrev new : Option Bool → State A R S
  new ended = record old {
    output = Some after;
    ready = ready_by ended old.ready;
    current =
        goes_on ended;
    closing = closing_by ended old.closing;
    longest =
        max old.longest (length text);
  }

  whole : IsTrue known.spill_tells → r.wrote ++ text ≡ l.drained ++ after.bytes
  whole t = ap (λ w. w ++ text) (was.bytes.whole t before had)
      ∙ (append_assoc l.drained before.bytes text ∙ ap (λ b. l.drained ++ b) (sym (told.told t)))

  most : length after.bytes ≤ old.fixed.value.window.high_watermark + max old.longest (length text)
  most = let size = told.size in let sum = length-append before.bytes text in let bound =
      le-max_right old.longest (length text) in omega (arith, below, size, sum, bound)

  kept : KeepsBytes known.spill_tells (Some after) l.drained (r.wrote ++ text)
  kept = record {
    whole = λ t b e. whole t ∙ ap (λ (x : Buffered S). l.drained ++ x.bytes) (same after b e);
    front = λ t. ap (λ w. take (length l.drained) w) (whole t)
        ∙ take-append_seam l.drained after.bytes;
  }

  counted : (past : RightPast S) → past.longest ≡ max r.longest (length text) →
      KeepsCounts old.fixed.value.window.high_watermark (max old.longest (length text))
      (Some after) past
  counted past longest = record {
    longest_is = ap (λ n. max n (length text)) was.counts.longest_is ∙ sym longest;
    most = λ b e. subst (λ (x : Buffered S). length x.bytes
        ≤ old.fixed.value.window.high_watermark + max old.longest (length text))
        (same after b e) most;
  }

  -- a part of the answer
  pub wrote_on : is_empty_part None text ≡ false →
      (IsTrue known.app_tells → ForSome r.current (λ c. GoesBy
      (answer_for old.fixed.value.site (known.script old.fixed.value.app) old.fixed.value.peer
      (asks c.unit)) c.written text None)) →
      Agrees known (new None) l (right_by r (Wrote text None))
  wrote_on some goes = record {
    order = was.order;
    bytes = kept;
    texts = λ t. texts_on _ _ _ r cur.0 cur.1 text (was.texts t) (goes t cur.0 cur.1);
    course = record {
      current_is = ap (λ o. is_some (option_map (with_text text) o)) (sym cur.1);
      closing_is = was.course.closing_is;
      began_is = was.course.began_is ∙ same_units;
      last = λ e. let no : true ≡ false = sym e ∙ open' in cc;
      strict = strict r.stray r.current cur.0 r.broke _ was.course.strict cur.1
          (none_broke _ _ _ _ _ _ _ _ was.death alive) some;
    };
    death = lives _ _ _ _ _ _ after l r _ refl alive was.death;
    counts = counted _ refl;
  }
    where
      by : (o : Option (Current S)) → r.finished ++ map unit_of (option_to_list o)
          ≡ r.finished ++ map unit_of (option_to_list (option_map (with_text text) o))
      by None = refl
      by (Some c) = refl

      same_units : r.finished ++ map unit_of (option_to_list r.current)
          ≡ r.finished ++ map unit_of (option_to_list (option_map (with_text text) r.current))
      same_units = by r.current

  -- the end of the answer
  pub wrote_last : (closes : Bool) → (IsTrue known.app_tells →
      ForSome r.current (λ c. GoesBy (answer_for old.fixed.value.site
      (known.script old.fixed.value.app) old.fixed.value.peer (asks c.unit)) c.written text
      (Some closes))) →
      Agrees known (new (Some closes)) l (right_by r (Wrote text (Some closes)))
  wrote_last closes goes = record {
    order = order closes;
    bytes = kept;
    texts = λ t. texts_end _ _ _ r cur.0 cur.1 text (was.texts t) closes open' (goes t cur.0 cur.1);
    course = record {
      current_is = refl;
      closing_is = refl;
      began_is = was.course.began_is ∙ sym (append-nil _);
      last = λ e. refl;
      strict = strict r.stray r.current cur.0 r.broke false was.course.strict cur.1
          (none_broke _ _ _ _ _ _ _ _ was.death alive) refl;
    };
    death = lives _ _ _ _ _ _ after l r _ refl alive was.death;
    counts = counted _ refl;
  }
    where
      order : (closes : Bool) → InOrder closes l.put r.began (ready_by (Some closes) old.ready)
      order true = record { going = λ e. cc; closed = λ e. refl; front = was.order.front }
      order false = record {
        going = λ e. was.order.going unclosed;
        closed = λ e. cc;
        front =
            was.order.front;
      }
