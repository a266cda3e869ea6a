-- Internal: what one recv, one send and the end of a call come to, by what is shown.
use Rattle.std.specs.Prelude.{◌≡◌, ◌≤◌, ◌<◌, ◌+◌, ℕ, Bool, true, false, not, ◌||◌, IsTrue}
use Rattle.std.specs.Prelude.{List, ◌++◌, length, is_some, Option, Some, None}
use Rattle.outside.specs.Causes.{Rose, raised}
use Rattle.outside.specs.Link.{LinkState, stamped}
use Rattle.outside.specs.declared.types.End.{End}
use Rattle.outside.specs.declared.types.End.TheVariants as over
use Rattle.channel.specs.Views.{Calls, CheckCause, Checks, DrainCause, Drains, ReadCause, Reads}
use Rattle.channel.specs.Views.{Shown, UnlessOver}
use Rattle.channel.specs.Views.{View, is_readable, is_writable}
use Rattle.channel.specs.declared.near.Moved.{Moved}
use Rattle.channel.specs.declared.near.Moved.TheVariants as moved
use Rattle.channel.specs.declared.types.Acted.{Acted}
use Rattle.channel.specs.declared.types.Acted.TheVariants as acted
use Rattle.channel.specs.declared.types.Window.{Window}

abbrev pub as_acted : Moved → Acted
as_acted moved.Idle = acted.Nothing
as_acted moved.PutOff = acted.Nothing
as_acted moved.Got = acted.Did
as_acted moved.Ended = acted.Did
as_acted moved.Took = acted.Did
as_acted moved.Failed = acted.Did
as_acted moved.Broke = acted.Did
as_acted moved.NoMemory = acted.Did

abbrev pub over_or : Option End → Moved → Acted
over_or (Some end) what = acted.Over end
over_or None what = as_acted what

-- the end that this brings
abbrev pub end_of : Moved → Option End
end_of moved.Idle = None
end_of moved.PutOff = None
end_of moved.Got = None
end_of moved.Ended = None
end_of moved.Took = None
end_of moved.Failed = Some over.LinkFault
end_of moved.Broke = Some over.SpillFault
end_of moved.NoMemory = Some over.NoMemory

-- the link's count of faults rises where it failed
abbrev pub FaultsBy : Moved → ℕ → ℕ → Type 0
FaultsBy moved.Idle old new = new ≡ old
FaultsBy moved.PutOff old new = new ≡ old
FaultsBy moved.Got old new = new ≡ old
FaultsBy moved.Ended old new = new ≡ old
FaultsBy moved.Took old new = new ≡ old
FaultsBy moved.Failed old new = Rose old new
FaultsBy moved.Broke old new = new ≡ old
FaultsBy moved.NoMemory old new = new ≡ old

-- the link is asked where this holds, and nothing is over yet
abbrev pub IfAsked : Bool → Moved → Option End → Type 0
IfAsked ask moved.Idle dead = IsTrue (is_some dead || not ask)
IfAsked ask moved.PutOff dead = (dead ≡ None) × IsTrue ask
IfAsked ask moved.Got dead = (dead ≡ None) × IsTrue ask
IfAsked ask moved.Ended dead = (dead ≡ None) × IsTrue ask
IfAsked ask moved.Took dead = (dead ≡ None) × IsTrue ask
IfAsked ask moved.Failed dead = (dead ≡ None) × IsTrue ask
IfAsked ask moved.Broke dead = (dead ≡ None) × IsTrue ask
IfAsked ask moved.NoMemory dead = (dead ≡ None) × IsTrue ask

-- ---- a recv

-- units were put, as many as are ready more
pub record Gets (now : ℕ) (old new : Shown) : Type 0 where
  pub grown : old.ready ≤ new.ready
  pub counted : new.put + old.ready ≡ old.put + new.ready
  pub shown : new ≡ record old {
    put = new.put;
    ready = new.ready;
    finished = new.finished;
    touched = now;
  }

abbrev pub ShowsHeard : ℕ → Moved → Shown → Shown → Type 0
ShowsHeard now moved.Idle old new = new ≡ old
ShowsHeard now moved.PutOff old new = new ≡ old
ShowsHeard now moved.Got old new = Gets now old new
ShowsHeard now moved.Ended old new = new ≡ record old { ended = true }
ShowsHeard now moved.Took old new = ⊥
ShowsHeard now moved.Failed old new = new ≡ record old { dead = Some over.LinkFault }
ShowsHeard now moved.Broke old new =
    new ≡ record old { finished = new.finished; touched = now; dead = Some over.SpillFault }
ShowsHeard now moved.NoMemory old new =
    new ≡ record old { finished = new.finished; touched = now; dead = Some over.NoMemory }

-- bytes came at this moment
pub record Gives (now : ℕ) (old new : LinkState) : Type 0 where
  pub bytes : List ℕ
  pub some : 0 < length bytes
  pub link : new ≡ record old {
    arrivals = old.arrivals ++ stamped now bytes;
    touched = now;
    asked = raised old.asked;
  }

abbrev pub LinkHeard : ℕ → Moved → LinkState → LinkState → Type 0
LinkHeard now moved.Idle old new = new ≡ old
LinkHeard now moved.PutOff old new =
    new ≡ record old { asked = raised old.asked; recv_put_off = raised old.recv_put_off }
LinkHeard now moved.Got old new = Gives now old new
LinkHeard now moved.Ended old new = new ≡ record old { ended = true; asked = raised old.asked }
LinkHeard now moved.Took old new = ⊥
LinkHeard now moved.Failed old new = new ≡ record old { asked = raised old.asked }
LinkHeard now moved.Broke old new = Gives now old new
LinkHeard now moved.NoMemory old new = Gives now old new

pub record Hears (tells : Bool) (now : ℕ) (what : Moved) (old new : View) : Type 0 where
  pub shown : ShowsHeard now what old.shown new.shown
  pub faults : FaultsBy what old.faults new.faults
  pub link : IsTrue tells → LinkHeard now what old.link new.link
  pub idle : what ≡ moved.Idle → new ≡ old

-- a recv, where the channel is readable
pub record HearsSome (tells : Bool) (now : ℕ) (w : Window) (what : Moved)
    (old new : View) : Type 0 where
  pub asked : IfAsked (is_readable w old.shown) what old.shown.dead
  pub hears : Hears tells now what old new

-- ---- a send

pub record Shortens (now : ℕ) (old new : Shown) : Type 0 where
  pub less : new.output < old.output
  pub shown : new ≡ record old { output = new.output; touched = now }

pub record Drops (old new : Shown) : Type 0 where
  pub less : new.output ≤ old.output
  pub shown : new ≡ record old { output = new.output; dead = Some over.SpillFault }

abbrev pub ShowsSaid : ℕ → Moved → Shown → Shown → Type 0
ShowsSaid now moved.Idle old new = new ≡ old
ShowsSaid now moved.PutOff old new = new ≡ old
ShowsSaid now moved.Got old new = ⊥
ShowsSaid now moved.Ended old new = ⊥
ShowsSaid now moved.Took old new = Shortens now old new
ShowsSaid now moved.Failed old new = new ≡ record old { dead = Some over.LinkFault }
ShowsSaid now moved.Broke old new = Drops old new
ShowsSaid now moved.NoMemory old new = ⊥

-- bytes of the output were taken at this moment
pub record Takes (now : ℕ) (old new : View) : Type 0 where
  pub bytes : List ℕ
  pub some : 0 < length bytes
  pub size : new.shown.output + length bytes ≤ old.shown.output
  pub link : new.link ≡ record old.link {
    sent = old.link.sent ++ bytes;
    touched = now;
    choked = new.link.choked;
    asked = raised old.link.asked;
  }

abbrev pub LinkSaid : ℕ → Moved → View → View → Type 0
LinkSaid now moved.Idle old new = new.link ≡ old.link
LinkSaid now moved.PutOff old new = new.link ≡ record old.link {
  choked = true;
  asked = raised old.link.asked;
  send_put_off = raised old.link.send_put_off;
}
LinkSaid now moved.Got old new = ⊥
LinkSaid now moved.Ended old new = ⊥
LinkSaid now moved.Took old new = Takes now old new
LinkSaid now moved.Failed old new =
    new.link ≡ record old.link { choked = false; asked = raised old.link.asked }
LinkSaid now moved.Broke old new = new.link ≡ old.link
LinkSaid now moved.NoMemory old new = ⊥

pub record Says (tells : Bool) (now : ℕ) (what : Moved) (old new : View) : Type 0 where
  pub shown : ShowsSaid now what old.shown new.shown
  pub faults : FaultsBy what old.faults new.faults
  pub link : IsTrue tells → LinkSaid now what old new
  pub idle : what ≡ moved.Idle → new ≡ old

-- a send, where the output isn't empty
pub record SaysSome (tells : Bool) (now : ℕ) (what : Moved) (old new : View) : Type 0 where
  pub asked : IfAsked (is_writable old.shown) what old.shown.dead
  pub says : Says tells now what old new

-- ---- a call

-- of a dead channel the output may be taken out
pub record Concludes (old new : View) : Type 0 where
  pub less : new.shown.output ≤ old.shown.output
  pub same : new ≡ record old { shown = record old.shown { output = new.shown.output } }
  pub alive : old.shown.dead ≡ None → new ≡ old

-- it timed out at this moment
abbrev pub dies_at : ℕ → View → View
dies_at at view = record view {
  shown = record view.shown {
    dead =
        Some (over.TimedOut view.shown.touched at);
  };
}

pub record ReadCalls (tells : Bool) (now : ℕ) (w : Window) (act : Acted)
    (old new : View) : Type 0 where
  pub calls : Calls tells now act old new
  pub reads : UnlessOver act (Reads tells w old new)
  pub cause : old.shown.dead ≡ None → ReadCause tells w act old new

pub record DrainCalls (tells : Bool) (now : ℕ) (w : Window) (act : Acted)
    (old new : View) : Type 0 where
  pub calls : Calls tells now act old new
  pub drains : UnlessOver act (Drains tells w old new)
  pub cause : old.shown.dead ≡ None → DrainCause tells act old new
  pub unput : new.shown.put ≡ old.shown.put

pub record CheckCalls (tells : Bool) (now : ℕ) (w : Window) (act : Acted)
    (old new : View) : Type 0 where
  pub calls : Calls tells now act old new
  pub checks : UnlessOver act (Checks tells now w old new)
  pub cause : old.shown.dead ≡ None → CheckCause tells now w act old new
  pub unput : new.shown.put ≡ old.shown.put
