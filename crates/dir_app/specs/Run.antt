-- What is read of a response.
use Rattle.dir_app.specs.declared.run.Answer.{Answer}
use Rattle.dir_app.specs.declared.run.Answer.TheVariants.{Text, File}
use Rattle.dir_app.specs.declared.text_steps.TextSteps.{TextSteps}

-- one thing of a text, and another of a file
abbrev pub answer_by : {F R : Type 0} → (TextSteps → R) → (F → R) → Answer F → R
answer_by of_text of_file (Text text) = of_text text
answer_by of_text of_file (File steps) = of_file steps
