-- Refusals as C has them: by their numbers, 0 for what does not apply.
use Rattle.answers.specs.declared.Refusal.{Refusal}
use Rattle.answers.specs.Numbers.{numbers_of}
use Rattle.turns.specs.declared.types.Refused.{Refused}

-- nothing is refused
abbrev pub accepted : Refused
accepted = record { number = 0; mark = 0; page = 0; cell = 0; column = 0 }

abbrev pub refused_by : Refusal → Refused
refused_by refusal =
    record {
      number = (numbers_of refusal).number;
      mark = (numbers_of refusal).mark;
      page = (numbers_of refusal).page;
      cell = (numbers_of refusal).cell;
      column = (numbers_of refusal).column;
    }
