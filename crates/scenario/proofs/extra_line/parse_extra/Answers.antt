use Rattle.std.proofs.Common.{◌≡◌, Option, None, Result, Ok, Err}
use Rattle.scenario.specs.declared.extra.Extra.{Extra}
use Rattle.scenario.specs.declared.error.LineError.{LineError}
use Rattle.scenario.specs.declared.error.LineError.TheVariants.{Words, NoMemory}
use Rattle.scenario.specs.Extras.{ReadsExtra}
use Rattle.scenario.proofs.ExtraLaws.{none-others, Spells-extra_of, extra_of-spelled, one-extra, sound-extra, command-none, ignored-none, refused-extra}
use Rattle.scenario.proofs.extra_line.parse_extra.Goals as goal

-- a line that gives no extra was answered so
none-answered : (result : Result (Option Extra) LineError) → ReadsExtra result (Ok None) → result ≡ Ok None
none-answered (Ok found) h = cc
none-answered (Err (Words column)) h = cc
none-answered (Err NoMemory) h = absurd h

pub returns-clause-spelled : goal.returns-clause-spelled
returns-clause-spelled c given e = Spells-extra_of c.args.line.now given (rw e at c.read_extra.ensures)

pub returns-clause-only : goal.returns-clause-only
returns-clause-only c given h = rw (extra_of-spelled c.args.line.now given h) at c.read_extra.ensures

pub returns-clause-one : goal.returns-clause-one
returns-clause-one c = one-extra c.args.line.now

pub returns-clause-sound : goal.returns-clause-sound
returns-clause-sound c given e = sound-extra c.args.line.now given (Spells-extra_of c.args.line.now given (rw e at c.read_extra.ensures))

pub returns-clause-others : goal.returns-clause-others
returns-clause-others c = (
  λ e. (none-others c.args.line.now).0 (rw e at c.read_extra.ensures),
  λ other. none-answered _ (rw ((none-others c.args.line.now).1 other) at c.read_extra.ensures),
)

pub returns-clause-commands : goal.returns-clause-commands
returns-clause-commands c command h = none-answered _ (rw (command-none c.args.line.now command h) at c.read_extra.ensures)

pub returns-clause-ignored : goal.returns-clause-ignored
returns-clause-ignored c h = none-answered _ (rw (ignored-none c.args.line.now h) at c.read_extra.ensures)

pub returns-clause-refused : goal.returns-clause-refused
returns-clause-refused c column e = refused-extra c.args.line.now column (rw e at c.read_extra.ensures)
