use Rattle.dir_app.proofs.FileLemmas.{found_within}
use Rattle.dir_app.proofs.file_steps.FileSteps.left.Goals as goal

pub overflow_sub-size : goal.overflow_sub-size
overflow_sub-size g c = found_within c.args.self.now.progress c.in-Found.at c.in-Found.size
    c.in-Found.is c.args.self.now.within
