use Rattle.std.proofs.Common.{◌∙◌, ap}
use Rattle.dir_app.specs.Media.{media_type, type_of_suffix}
use Rattle.dir_app.proofs.MediaLemmas.{none_found}
use Rattle.dir_app.proofs.media.media_type.Goals as goal

pub returns-in-None : goal.returns-in-None
unfolding media_type
returns-in-None c =
    none_found c.suffix.result.now _ c.suffixes-rows.ensures c.in-None.ensures.first ∙
    ap type_of_suffix c.suffix.ensures
