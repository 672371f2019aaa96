mod Sweep
