use Rattle.std.proofs.Common.{length}
use Rattle.channel.specs.Views.{telling}
use Rattle.poll_loop.specs.Entries.{is_app_fault}
use Rattle.poll_loop.proofs.Retired.{broke_by, closed_accounts, fell_by, few_more}
use Rattle.poll_loop.proofs.retiring.retire_lane.Goals as goal

pub returns-clause-room : goal.returns-clause-room
returns-clause-room g c =
    few_more (is_app_fault c.args.end) (length c.args.fallen.now.items)
    (length c.put_run.new.fallen.items)
    (fell_by _ _ _ _ c.args.end c.args.fallen.now.items c.put_run.new.fallen.items _ _
    (c.close-closed.ensures.ends c.args.end c.requires.over) c.put_run.ensures.puts)

pub returns-clause-broke : goal.returns-clause-broke
returns-clause-broke g c =
    broke_by _ _ _ _ c.args.end c.args.fallen.now.items c.put_run.new.fallen.items _ _
    (c.close-closed.ensures.ends c.args.end c.requires.over) c.put_run.ensures.puts
    c.requires.broke

pub returns-clause-accounts : goal.returns-clause-accounts
returns-clause-accounts g c tells =
    closed_accounts (telling g.N.Link.Link.tells g.P.Spill.Spill.tells g.A.App.tells) g.A.App.script
    c.args.settings.now c.args.app.now
    (record {
      spill = g.P.Spill.Spill.faults;
      run = g.A.Run.AppRun.faults;
      body =
          g.A.Run.AppRun.spill_faults;
    })
    g.N.Link.Link.state g.N.Link.Link.faults g.N.Link.Link.plan
    (g.N.Net.state c.args.net.now) (g.N.Net.state c.retire.new.self) c.args.lane.fixed
    c.args.lane.link c.close-closed.result.0.link c.args.lane.peer c.close-closed.result.0.peer
    c.args.end
    c.close-closed.result.0.broken c.close-closed.result.0.fallen c.args.fallen.now.items
    c.put_run.new.fallen.items
    (g.P.Spills.faults c.args.spills.now) (g.P.Spills.faults c.settle_spill.new.spills)
    (g.P.Spills.faults c.put_run.new.spills)
    (c.retire.ensures.told tells) (c.requires.live tells) c.close-closed.ensures.link
    c.close-closed.ensures.peer c.requires.by
    c.close-closed.ensures.sent (c.close-closed.ensures.ends c.args.end c.requires.over)
    (c.requires.timely tells) (c.requires.bears tells)
    c.settle_spill.ensures.settles c.put_run.ensures.puts
