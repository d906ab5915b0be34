-- Replies whose rows are regular.
use Rattle.sheet_rows.specs.Regular.{AreRegular}
use Rattle.answers.specs.declared.reply.Answer.{Answer}
use Rattle.answers.specs.declared.reply.Answer.TheVariants.{Value, Variance, Covariance, Correlation, Sensitivity, Degrees, Report, Expanded, Decision, Budget, Dump, ValueFault, LawOverflow}
use Rattle.answers.specs.declared.reply.Reply.{Reply}
use Rattle.answers.specs.declared.reply.Reply.TheVariants.{Fine, Line, Edit, History, Mark, Ask, Said}

abbrev pub IsRegularAnswer : Answer → Type 0
IsRegularAnswer (Value name span) = Unit {0}
IsRegularAnswer (Variance name span) = Unit {0}
IsRegularAnswer (Covariance first second span) = Unit {0}
IsRegularAnswer (Correlation first second said) = Unit {0}
IsRegularAnswer (Sensitivity name input span) = Unit {0}
IsRegularAnswer (Degrees name said) = Unit {0}
IsRegularAnswer (Report name said) = Unit {0}
IsRegularAnswer (Expanded name said factor) = Unit {0}
IsRegularAnswer (Decision name rule said) = Unit {0}
IsRegularAnswer (Budget lines name variance) = Unit {0}
IsRegularAnswer (Dump rows) = AreRegular rows
IsRegularAnswer (ValueFault fault row) = Unit {0}
IsRegularAnswer LawOverflow = Unit {0}

abbrev pub IsRegularReply : Reply → Type 0
IsRegularReply Fine = Unit {0}
IsRegularReply (Line fault) = Unit {0}
IsRegularReply (Edit fault) = Unit {0}
IsRegularReply (History fault) = Unit {0}
IsRegularReply (Mark fault) = Unit {0}
IsRegularReply (Ask fault) = Unit {0}
IsRegularReply (Said answer) = IsRegularAnswer answer
