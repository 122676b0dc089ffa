-- The command `replay`, in the values that its arguments have.
use Rattle.std.proofs.Common.{◌≡◌, ◌&&◌, ℕ, List, Bool, true, false, Option, Some, None, if◌then◌else◌, refl, ap, sym, ◌∙◌}
use Rattle.std.specs.Prelude.{option_map, option_and_then}
use Rattle.std.specs.Option.{option_zip}
use Rattle.clock_words.specs.Rows.{Text, Item, is_given, items_in, value_of}
use Rattle.clock_words.specs.Lines.{replay_row, ticks_name, readers_name, reads_name, back_name, crank_name, utc_name, lane_name, ticks_told, readers_told, reads_told, replay_by, replay_in, replay_of}
use Rattle.clock_words.specs.Apps.{flag_text, with_flags}
use Rattle.clock_words.specs.declared.commands.Command.{Command}
use Rattle.clock_words.specs.declared.commands.Command.TheVariants as command
use Rattle.clock_words.specs.declared.commands.Report.TheVariants as report
use Rattle.clock_words.proofs.Flags.{flag_value, option_value}
use Rattle.clock_words.proofs.Written.{written}

-- `replay` by the numbers of the arguments, and four flags
abbrev by_arguments : List Item → Bool → Bool → Bool → Bool → Option Command
by_arguments arguments back crank utc lane = if crank && lane then None
    else replay_by back crank utc lane (ticks_told arguments) (readers_told arguments) (reads_told arguments)

-- a flag is the one that the arguments give, if they give one
abbrev Gives : List Item → Text → Bool → Type 0
Gives arguments name flag = (given : Bool) → value_of name arguments ≡ Some (flag_text given) → flag ≡ given

-- the words are `replay` by what the arguments say
record IsSaid (words : List Text) (arguments : List Item) : Type 0 where
  back : Bool
  crank : Bool
  utc : Bool
  lane : Bool
  back_is : value_of back_name arguments ≡ Some (flag_text back)
  crank_is : value_of crank_name arguments ≡ Some (flag_text crank)
  utc_is : value_of utc_name arguments ≡ Some (flag_text utc)
  lane_is : value_of lane_name arguments ≡ Some (flag_text lane)
  is : replay_in words ≡ by_arguments arguments back crank utc lane

said : (words : List Text) (arguments : List Item) → Some arguments ≡ option_map (with_flags replay_row) (items_in replay_row words) → IsSaid words arguments
said words arguments e = by_items (items_in replay_row words) refl
  where
    by_items : (x : Option (List Item)) → items_in replay_row words ≡ x → IsSaid words arguments
    by_items None f = absurd (let q : Some arguments ≡ None = e ∙ rw f refl in cc)
    by_items (Some items) f =
        let same : arguments ≡ with_flags replay_row items = (let q : Some arguments ≡ Some (with_flags replay_row items) = e ∙ rw f refl in cc) in
        let parts = ((written replay_row refl words items).0 f).parts in
        let ticks : value_of ticks_name arguments ≡ value_of ticks_name items = ap (value_of ticks_name) same
        ∙ option_value ticks_name replay_row.flags items refl in
        let readers : value_of readers_name arguments ≡ value_of readers_name items = ap (value_of readers_name) same
        ∙ option_value readers_name replay_row.flags items refl in
        let reads : value_of reads_name arguments ≡ value_of reads_name items = ap (value_of reads_name) same
        ∙ option_value reads_name replay_row.flags items refl in
        record {
          back = is_given back_name items;
          crank = is_given crank_name items;
          utc = is_given utc_name items;
          lane = is_given lane_name items;
          back_is = ap (value_of back_name) same ∙ flag_value replay_row back_name words items parts refl refl refl;
          crank_is = ap (value_of crank_name) same ∙ flag_value replay_row crank_name words items parts refl refl refl;
          utc_is = ap (value_of utc_name) same ∙ flag_value replay_row utc_name words items parts refl refl refl;
          lane_is = ap (value_of lane_name) same ∙ flag_value replay_row lane_name words items parts refl refl refl;
          is = ap (option_and_then replay_of) f ∙ sym (rw (ticks, readers, reads) refl);
        }

-- numbers and flags that are said make the command
pub replayed : (words : List Text) (arguments : List Item) → Some arguments ≡ option_map (with_flags replay_row) (items_in replay_row words)
    → (n readers reads : ℕ) → Some n ≡ ticks_told arguments → Some readers ≡ readers_told arguments → Some reads ≡ reads_told arguments
    → (back crank utc lane : Bool) → Gives arguments back_name back → Gives arguments crank_name crank → Gives arguments utc_name utc
    → Gives arguments lane_name lane → (crank && lane) ≡ false → Some (command.Report (report.Replay n readers reads back crank utc lane)) ≡ replay_in words
replayed words arguments e n readers reads k l m back crank utc lane b c u d apart =
    let s = said words arguments e in
    let so : replay_in words ≡ by_arguments arguments back crank utc lane =
    rw (b s.back s.back_is, c s.crank s.crank_is, u s.utc s.utc_is, d s.lane s.lane_is) s.is in
    sym (so ∙ rw (apart, sym k, sym l, sym m) refl)

-- a crank and a lane make none
pub both_said : (words : List Text) (arguments : List Item) → Some arguments ≡ option_map (with_flags replay_row) (items_in replay_row words)
    → (crank lane : Bool) → Gives arguments crank_name crank → Gives arguments lane_name lane → (crank && lane) ≡ true → None ≡ replay_in words
both_said words arguments e crank lane c d both =
    let s = said words arguments e in
    let so : (s.crank && s.lane) ≡ true = rw (sym (c s.crank s.crank_is), sym (d s.lane s.lane_is)) both in
    sym (s.is ∙ rw so refl)

-- and where a number is not in its range there is none either
pub not_replayed : (words : List Text) (arguments : List Item) → Some arguments ≡ option_map (with_flags replay_row) (items_in replay_row words)
    → option_zip (ticks_told arguments) (option_zip (readers_told arguments) (reads_told arguments)) ≡ None → None ≡ replay_in words
not_replayed words arguments e none =
    let s = said words arguments e in
    sym (s.is ∙ either (s.crank && s.lane) _
    (ap (option_map (λ n. command.Report (report.Replay n.0 n.1.0 n.1.1 s.back s.crank s.utc s.lane))) none))
  where
    either : (b : Bool) (x : Option Command) → x ≡ None → (if b then None else x) ≡ None
    either true x e = refl
    either false x e = e
