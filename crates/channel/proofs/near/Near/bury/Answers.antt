use Rattle.std.proofs.Common.{rules, ◌≡◌, None, refl, if◌then◌else◌}
use Rattle.channel.specs.Acting.{spill_by}
use Rattle.channel.specs.Agreement.{known_by}
use Rattle.channel.specs.Sides.{linked, side_of}
use Rattle.channel.proofs.LeftTurns.{left_buries, side_taken}
use Rattle.channel.proofs.near.Near.bury.Goals as goal

pub returns-clause-turns : goal.returns-clause-turns
returns-clause-turns g c =
    let spill : c.spill_of.result ≡ spill_by (if c.is_of_output-is_output.result
    then c.args.state.now.output else None) c.args.self.now.broken = search rules in
    record {
      side = left_buries _ _ _ _ _ c.args.end c.is_of_output-is_output.result c.args.self.now.broken
          _ c.requires.dead c.requires.breaking c.requires.first c.is_of_output-is_output.ensures
          c.bury-run.ensures.left
          (side_taken g.S.Spill.faults g.A.Run.AppRun.spill_faults g.A.Run.AppRun.faults
          (side_of (linked g.L.Link.tells g.L.Link.state g.L.Link.faults g.L.Link.key g.L.Link.plan)
          (known_by g.S.Spill.tells g.A.App.tells g.A.App.script g.S.Spill.faults
          g.A.Run.AppRun.faults g.A.Run.AppRun.spill_faults) c.args.self.now)
          c.spill_of.result _ c.bury-run.result.0 _ spill c.bury-run.ensures.run)
          c.note.ensures;
      same = record { window = refl; peer = refl; key = refl; plan = refl };
    }
