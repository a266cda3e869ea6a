-- What is kept so far, and what will be kept of the fields that are left.
use Rattle.std.proofs.Common.{◌≡◌, ◌++◌}
use Rattle.proxy_trust.specs.Kept.{kept_fields}
use Rattle.proxy_trust.proofs.keeping.keep_fields.Given as goal

abbrev pub invariant-loop-name : goal.invariant-loop-name
invariant-loop-name l = record {
  same : kept_fields l.clear l.initial.news.items l.fields
      ≡ l.kept.items ++ kept_fields l.clear l.news.items l.name-iterator;
}
