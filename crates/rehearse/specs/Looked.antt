-- What open and retired connections of a rehearsal tell where they are asked.
use Rattle.std.specs.Prelude.{◌≡◌, true}
use Rattle.std.specs.List.{list_any}
use Rattle.channel.specs.Views.{Seen}
use Rattle.outside.specs.MemLink.{KeepsToPlan}
use Rattle.outside.specs.declared.mem_link.MemLink.{MemLink}
use Rattle.poll_loop.specs.Seat.{viewed}
use Rattle.request_stream.specs.Units.{closing, units}
use Rattle.rehearse.specs.Between.{mem_eyes}
use Rattle.rehearse.specs.Falling.{IsCounted}

-- Its link went by its plan, it takes nothing in behind what closes it, and its counts are of 64
-- bits.
pub record IsSound {A : Type 0} (lane : Seen MemLink A) : Type 0 where
  pub keeps : KeepsToPlan lane.link
  pub finished : list_any closing (units lane.fixed.limits lane.link.state.arrivals) ≡ true →
      lane.shown.finished ≡ true
  pub counted : IsCounted (viewed mem_eyes lane)
