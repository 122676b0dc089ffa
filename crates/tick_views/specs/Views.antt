-- What each step makes of a view.
use Rattle.std.specs.Prelude.{ℕ, ◌+◌, ◌/◌, max, Bool, true, false, List, [], ◌∷◌, ◌++◌, length, Option, Some, None}
use Rattle.tick_reads.specs.declared.loads.Ask.{Ask}
use Rattle.clock_logs.specs.declared.noted.Kept.{Kept}
use Rattle.tick_views.specs.declared.views.MarkLoad.{MarkLoad}
use Rattle.tick_views.specs.declared.views.CrankView.{CrankView}
use Rattle.tick_views.specs.declared.views.PenView.{PenView}
use Rattle.tick_views.specs.declared.views.PassView.{PassView}
use Rattle.tick_views.specs.declared.views.View.{View}
use Rattle.tick_views.specs.declared.views.View.TheVariants.{Pen, Pass, Crank, Note, Spent}
use Rattle.clock_lines.specs.declared.readings.Kind.TheVariants as kind
use Rattle.tick_reads.specs.declared.loads.Load.{Load}
use Rattle.tick_reads.specs.declared.loads.Load.TheVariants.{Turn, Field, Mark, Counter}
use Rattle.clock_lines.specs.declared.readings.Entry.{Entry}
use Rattle.clock_logs.specs.declared.noted.Noted.{Noted}
use Rattle.ff_hands.specs.Windups.{cold}
use Rattle.hand_words.specs.Words.{unpack}
use Rattle.tick_reads.specs.Scans.{Scan, fresh, after, run}

-- a new table
abbrev pub pen_first : PenView
pen_first = record {
  journal = cold ∷ [];
  winding = false;
  marked = false;
  set = false;
  loaded = None;
  counters = [];
  top = 0;
  met = [];
  out = false;
  stored = [];
  made = 0;
  kept = [];
}

-- the steps of a windup, in their order
abbrev pub turn_started : PenView → PenView
turn_started p = record p { winding = true; marked = false; set = false; loaded = None; stored = [] }

-- the counter, which the open windup takes as its count
abbrev pub loaded_if : Bool → ℕ → Option ℕ
loaded_if true c = Some c
loaded_if false c = None

abbrev pub pen_counted : ℕ → PenView → PenView
pen_counted c p = record p { loaded = loaded_if p.winding c; counters = p.counters ++ c ∷ [] }

abbrev pub mark_started : PenView → PenView
mark_started p = record p { marked = true; set = false; stored = [] }

abbrev pub field_stored : ℕ → PenView → PenView
field_stored word p = record p { stored = p.stored ++ word ∷ [] }

abbrev pub mark_set : PenView → PenView
mark_set p = record p { set = true }

abbrev pub turn_closed : PenView → PenView
turn_closed p = record p { journal = p.journal ++ unpack p.stored ∷ []; winding = false; marked = false; set = false; loaded = None }

-- a raise, which left the counter at met
abbrev pub top_raised : ℕ → ℕ → PenView → PenView
top_raised to met p = record p { top = max p.top to; met = p.met ++ met ∷ [] }

-- a step of the pen changes the view of the pen alone, and so for the others
abbrev pub on_pen : (PenView → PenView) → View → View
on_pen f (Pen p) = Pen (f p)
on_pen f (Pass v) = Pass v
on_pen f (Crank top) = Crank top
on_pen f (Note seen) = Note seen
on_pen f Spent = Spent

abbrev pub pen_of : View → PenView
pen_of (Pen p) = p
pen_of (Pass v) = pen_first
pen_of (Crank top) = pen_first
pen_of (Note seen) = pen_first
pen_of Spent = pen_first

-- a crank that has raised the counter to nothing, and a raise, which left the counter at met
abbrev pub crank_first : CrankView
crank_first = record { top = 0; met = [] }

abbrev pub crank_raised : ℕ → ℕ → CrankView → CrankView
crank_raised to met k = record { top = max k.top to; met = k.met ++ met ∷ [] }

abbrev pub on_crank : (CrankView → CrankView) → View → View
on_crank f (Pen p) = Pen p
on_crank f (Pass v) = Pass v
on_crank f (Crank top) = Crank (f top)
on_crank f (Note seen) = Note seen
on_crank f Spent = Spent

abbrev pub crank_of : View → CrankView
crank_of (Pen p) = crank_first
crank_of (Pass v) = crank_first
crank_of (Crank k) = k
crank_of (Note seen) = crank_first
crank_of Spent = crank_first

abbrev pub no_ask : Ask
no_ask = record { kind = kind.Fast; given = 0 }

-- a new pass, which has seen so many ticks
abbrev pub new_pass : ℕ → ℕ → PassView
new_pass number seen = record { number = number; seen = seen; turns = []; counters = []; marks = []; calling = false; ask = no_ask; loads = []; entries = [] }

abbrev pub noted : Entry → ℕ → Noted
noted entry opening = record { entry = entry; opening = opening }

-- a call goes on while its loads decide nothing, and then gains an entry
abbrev pub undecided : Option Entry → Bool
undecided None = true
undecided (Some e) = false

abbrev pub gained : List Noted → Option Entry → ℕ → List Noted
gained log None opening = log
gained log (Some e) opening = log ++ noted e opening ∷ []

-- how far the call of a pass is
abbrev pub scan_of : PassView → Scan
scan_of v = run v.ask fresh v.loads

abbrev pub mark_load : ℕ → ℕ → MarkLoad
mark_load tick mark = record { tick = tick; mark = mark }

-- after a further load, by which the call is as far as s
abbrev pub settled : PassView → ℕ → List ℕ → List ℕ → List MarkLoad → Load → Scan → PassView
settled v seen turns counters marks l s = record v {
  seen = seen;
  turns = turns;
  counters = counters;
  marks = marks;
  calling = undecided s.answer;
  loads = v.loads ++ l ∷ [];
  entries = gained v.entries s.answer s.first;
}

-- each load of a call
abbrev pub turn_loaded : ℕ → PassView → PassView
turn_loaded w v = settled v (w / 2 + 1) (v.turns ++ w ∷ []) v.counters v.marks (Turn w) (after v.ask (scan_of v) (Turn w))

abbrev pub counter_loaded : ℕ → PassView → PassView
counter_loaded c v = settled v v.seen v.turns (v.counters ++ c ∷ []) v.marks (Counter c) (after v.ask (scan_of v) (Counter c))

-- the field and the mark of the tick that the call is at
abbrev pub field_loaded : ℕ → ℕ → PassView → PassView
field_loaded f x v = let l = Field (scan_of v).tick f x in settled v v.seen v.turns v.counters v.marks l (after v.ask (scan_of v) l)

abbrev pub mark_loaded : ℕ → PassView → PassView
mark_loaded x v = let l = Mark (scan_of v).tick x in settled v v.seen v.turns v.counters (v.marks ++ mark_load (scan_of v).tick x ∷ []) l
    (after v.ask (scan_of v) l)

-- the call that stood open is given up
abbrev pub call_begun : Ask → PassView → PassView
call_begun ask v = record v { calling = true; ask = ask; loads = [] }

abbrev pub on_pass : (PassView → PassView) → View → View
on_pass f (Pen p) = Pen p
on_pass f (Pass v) = Pass (f v)
on_pass f (Crank top) = Crank top
on_pass f (Note seen) = Note seen
on_pass f Spent = Spent

abbrev pub pass_of : View → PassView
pass_of (Pen p) = new_pass 0 0
pass_of (Pass v) = v
pass_of (Crank top) = new_pass 0 0
pass_of (Note seen) = new_pass 0 0
pass_of Spent = new_pass 0 0

abbrev pub note_of : View → ℕ
note_of (Pen p) = 0
note_of (Pass v) = 0
note_of (Crank top) = 0
note_of (Note seen) = seen
note_of Spent = 0

-- the pen cuts a pass off, and takes one in
abbrev pub pass_made : PenView → PenView
pass_made p = record p { made = p.made + 1 }

abbrev pub pass_cut : View → View
pass_cut (Pen p) = Pass (new_pass p.made (length p.journal))
pass_cut (Pass v) = Spent
pass_cut (Crank top) = Spent
pass_cut (Note seen) = Spent
pass_cut Spent = Spent

abbrev pub kept_of : PassView → Kept
kept_of v = record { number = v.number; seen = v.seen; counters = v.counters; entries = v.entries }

abbrev pub pass_taken : PenView → PassView → PenView
pass_taken p v = record p { kept = p.kept ++ kept_of v ∷ [] }

-- a note of what its maker had seen
abbrev pub noted_cut : View → View
noted_cut (Pen p) = Note (length p.journal)
noted_cut (Pass v) = Note v.seen
noted_cut (Crank top) = Spent
noted_cut (Note seen) = Spent
noted_cut Spent = Spent

abbrev pub learned : PassView → ℕ → PassView
learned v seen = record v { seen = max v.seen seen }

-- the crank is lent, and taken back
abbrev pub crank_lent : PenView → PenView
crank_lent p = record p { out = true }

abbrev pub crank_cut : View → View
crank_cut (Pen p) = Crank crank_first
crank_cut (Pass v) = Spent
crank_cut (Crank top) = Spent
crank_cut (Note seen) = Spent
crank_cut Spent = Spent

abbrev pub crank_taken : PenView → ℕ → PenView
crank_taken p top = record p { out = false; top = max p.top top }

-- what joins make of two views
abbrev pub taken_by_pen : PenView → View → PenView
taken_by_pen p (Pen q) = p
taken_by_pen p (Pass v) = pass_taken p v
taken_by_pen p (Crank k) = crank_taken p k.top
taken_by_pen p (Note seen) = p
taken_by_pen p Spent = p

abbrev pub taken_by_pass : PassView → View → PassView
taken_by_pass v (Pen q) = v
taken_by_pass v (Pass u) = v
taken_by_pass v (Crank top) = v
taken_by_pass v (Note seen) = learned v seen
taken_by_pass v Spent = v

abbrev pub taken : View → View → View
taken (Pen p) w = Pen (taken_by_pen p w)
taken (Pass v) w = Pass (taken_by_pass v w)
taken (Crank top) w = Crank top
taken (Note seen) w = Note seen
taken Spent w = Spent
